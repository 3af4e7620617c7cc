-- All words are there.
use mathlib.Core.Path.{◌≡◌}
use native.Mathlib.Omega.{arith}
use Rattle.bits.proofs.Elements.{replaced_all}
use Rattle.lbox.specs.Tables.{joined}
use Rattle.lbox.proofs.join.Goals as goal

pub returns : goal.returns
unfolding joined
returns c =
    let all : c.loop-i.i ≡ 256 = omega arith in
    replaced_all 0 (rw all at c.loop-i.invariant)
