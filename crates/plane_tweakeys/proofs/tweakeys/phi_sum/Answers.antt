-- All rows of both halves are added.
use mathlib.Core.Path.{◌≡◌}
use native.Mathlib.Omega.{arith}
use Rattle.plane_tweakeys.proofs.Ways.{halves_all, phi_added_goes}
use Rattle.plane_tweakeys.proofs.tweakeys.phi_sum.Goals as goal

pub returns : goal.returns
returns c =
    let all : c.loop-i.i ≡ 4 = omega arith in
    phi_added_goes _ (halves_all (rw all at c.loop-i.invariant))
