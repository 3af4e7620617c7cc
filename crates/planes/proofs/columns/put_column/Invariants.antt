-- The rows so far have the planes put.
use mathlib.Core.List.{[]}
use lib.ListN.{get_or, set}
use Rattle.bits.proofs.Elements.{Replaced}
use Rattle.planes.proofs.columns.put_column.Given as goal

abbrev pub invariant-loop-i : goal.invariant-loop-i
invariant-loop-i l = Replaced [] 8 (λ i. set (get_or l.initial.x i []) l.j (get_or l.y i 0)) l.initial.x l.i l.x
