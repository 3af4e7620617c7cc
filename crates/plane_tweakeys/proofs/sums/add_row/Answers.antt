-- All planes are there.
use mathlib.Core.Path.{◌≡◌}
use native.Mathlib.Omega.{arith}
use Rattle.bits.proofs.Elements.{replaced_all}
use Rattle.plane_tweakeys.specs.PlaneRows.{add_planes}
use Rattle.plane_tweakeys.proofs.sums.add_row.Goals as goal

pub returns : goal.returns
unfolding add_planes
returns c =
    let all : c.loop-j.j ≡ 16 = omega arith in
    replaced_all 0 (rw all at c.loop-j.invariant)
