-- All rows are rotated.
use mathlib.Core.List.{[]}
use mathlib.Core.Path.{◌≡◌}
use native.Mathlib.Omega.{arith}
use Rattle.bits.proofs.Elements.{replaced_all}
use Rattle.plane_tweakeys.proofs.Ways.{rotated_goes}
use Rattle.plane_tweakeys.proofs.tweakeys.rotate.Goals as goal

pub returns : goal.returns
returns c =
    let all : c.loop-i.i ≡ 8 = omega arith in
    rotated_goes (replaced_all [] (rw all at c.loop-i.invariant))
