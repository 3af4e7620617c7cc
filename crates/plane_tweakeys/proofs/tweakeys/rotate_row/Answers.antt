-- All planes are there.
use mathlib.Core.Path.{◌≡◌}
use native.Mathlib.Omega.{arith}
use Rattle.bits.proofs.Elements.{replaced_all}
use Rattle.plane_tweakeys.specs.PlaneRows.{rotated_planes}
use Rattle.plane_tweakeys.proofs.tweakeys.rotate_row.Goals as goal

pub returns : goal.returns
unfolding rotated_planes
returns c =
    let all : c.loop-j.j ≡ 16 = omega arith in
    replaced_all 0 (rw all at c.loop-j.invariant)
