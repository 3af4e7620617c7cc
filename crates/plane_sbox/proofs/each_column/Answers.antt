-- A turn of the loop sends one column through the circuit.
use mathlib.Core.Path.{◌≡◌, ap, ◌∙◌}
use native.Mathlib.Omega.{arith}
use Rattle.sbox.specs.Sbox.{layer_at}
use Rattle.planes.proofs.Column.{put_shaped}
use Rattle.plane_sbox.proofs.Substituted.{substituted_more, substituted_all}
use Rattle.plane_sbox.proofs.each_column.Goals as goal

pub loop-j-preserved : goal.loop-j-preserved
loop-j-preserved g c =
    rw c.put_column.ensures (
      put_shaped c.loop-j.x c.loop-j.j c.circuit-y.result c.loop-j.invariant.0,
      λ t is.
          substituted_more (c.loop-j.invariant.1 t is) c.loop-j-test.true c.circuit-y.result
          (is _ _ c.circuit-y.ensures ∙ ap (layer_at 64 t) c.column.ensures),
    )

pub returns : goal.returns
returns g c =
    let e : c.loop-j.j ≡ 16 = omega arith in
    λ t is. substituted_all {x = c.loop-j.x} (rw e at (c.loop-j.invariant.1 t is))
