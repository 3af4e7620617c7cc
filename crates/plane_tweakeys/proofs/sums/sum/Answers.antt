-- All rows are added.
use mathlib.Core.List.{[]}
use mathlib.Core.Path.{◌≡◌}
use native.Mathlib.Omega.{arith}
use Rattle.bits.proofs.Elements.{replaced_all}
use Rattle.plane_tweakeys.proofs.Ways.{added_goes}
use Rattle.plane_tweakeys.proofs.sums.sum.Goals as goal

pub returns : goal.returns
returns c =
    let all : c.loop-i.i ≡ 8 = omega arith in
    added_goes _ (replaced_all [] (rw all at c.loop-i.invariant))
