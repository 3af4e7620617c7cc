-- A turn of the loop multiplies one row of planes.
use mathlib.Core.Path.{◌≡◌}
use native.Mathlib.Omega.{arith}
use Rattle.plane_lbox.proofs.Layer.{multiplied_more, multiplied_goes}
use Rattle.plane_lbox.proofs.each_row.Goals as goal

pub loop-row-preserved : goal.loop-row-preserved
loop-row-preserved g c =
    λ m is. multiplied_more m (c.loop-row.invariant m is) c.loop-row-test.true c.network.result (is _ _ c.network.ensures)

pub returns : goal.returns
returns g c =
    let e : c.loop-row.row-index ≡ 8 = omega arith in
    λ m square is. multiplied_goes m square {y = c.loop-row.x} (rw e at (c.loop-row.invariant m is))
