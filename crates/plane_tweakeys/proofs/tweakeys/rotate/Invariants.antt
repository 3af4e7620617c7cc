-- The first i rows are rotated.
use mathlib.Core.List.{[]}
use lib.ListN.{get_or}
use Rattle.bits.proofs.Elements.{Replaced}
use Rattle.plane_tweakeys.specs.PlaneRows.{rotated_planes}
use Rattle.plane_tweakeys.proofs.tweakeys.rotate.Given as goal

abbrev pub invariant-loop-i : goal.invariant-loop-i
invariant-loop-i l = Replaced [] 8 (λ i. rotated_planes (get_or l.x i [])) l.initial.y l.i l.y
