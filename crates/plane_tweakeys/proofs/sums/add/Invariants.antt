-- The first i rows are added.
use mathlib.Core.List.{[]}
use lib.ListN.{get_or}
use Rattle.bits.proofs.Elements.{Replaced}
use Rattle.plane_tweakeys.specs.PlaneRows.{add_planes}
use Rattle.plane_tweakeys.proofs.sums.add.Given as goal

abbrev pub invariant-loop-i : goal.invariant-loop-i
invariant-loop-i l = Replaced [] 8 (λ i. add_planes (get_or l.initial.x i []) (get_or l.t i [])) l.initial.x l.i l.x
