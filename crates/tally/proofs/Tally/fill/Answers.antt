-- All trigrams are counted.
use native.Mathlib.Omega.{arith}
use Rattle.trigrams.proofs.Trigrams.{take_trigrams_all}
use Rattle.tally.proofs.Tally.fill.Goals as goal

pub returns : goal.returns
returns g c =
    rw (take_trigrams_all c.args.s.now c.loop-i.i (omega arith)) at c.loop-i.invariant.counts
