-- The loop has marked the ranges of the first i trigrams.
use native.Mathlib.Omega.{arith}
use Rattle.trigrams.proofs.Trigrams.{take_next, take_trigrams_all}
use Rattle.ranges.proofs.Marks.{marked_none, marked_more}
use Rattle.ranges.proofs.mark.Goals as goal

pub loop-i-init : goal.loop-i-init
loop-i-init c =
    marked_none c.args.marks.now c.requires

pub loop-i-preserved : goal.loop-i-preserved
loop-i-preserved c =
    let v = c.at.result in
    rw (take_next c.args.a.now c.loop-i.i v (omega arith) c.at.ensures.is)
    (marked_more c.loop-i.invariant v (omega (arith, c.at.ensures.small)))

pub returns : goal.returns
returns c =
    rw (take_trigrams_all c.args.a.now c.loop-i.i (omega arith)) at c.loop-i.invariant
