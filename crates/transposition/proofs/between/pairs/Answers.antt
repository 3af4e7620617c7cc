-- All pairs are exchanged.
use mathlib.Core.Path.{◌≡◌}
use native.Mathlib.Omega.{arith}
use Rattle.bits.proofs.Elements.{replaced_all}
use Rattle.transposition.proofs.between.pairs.Goals as goal

pub returns : goal.returns
returns g c =
    let all : c.loop-c.c ≡ 16 = omega arith in
    record { first = replaced_all 0 (rw all at c.loop-c.invariant.0); second = replaced_all 0 (rw all at c.loop-c.invariant.1) }
