-- The first i rows of both halves are added.
use mathlib.Core.List.{[]}
use Prim.Native.Nat.{◌+◌}
use lib.ListN.{get_or}
use Rattle.plane_tweakeys.specs.PlaneRows.{add_planes}
use Rattle.plane_tweakeys.proofs.Ways.{Halves}
use Rattle.plane_tweakeys.proofs.tweakeys.phi_sum.Given as goal

abbrev pub invariant-loop-i : goal.invariant-loop-i
invariant-loop-i l =
    Halves (λ i. add_planes (add_planes (get_or l.x i []) (get_or l.x (i + 4) [])) (get_or l.key i []))
    (λ i. add_planes (get_or l.x i []) (get_or l.key (i + 4) [])) l.i l.y
