-- The planes of the first i rows are there.
use mathlib.Core.List.{[]}
use lib.ListN.{get_or}
use Rattle.bits.proofs.Elements.{Replaced}
use Rattle.planes.proofs.columns.column.Given as goal

abbrev pub invariant-loop-i : goal.invariant-loop-i
invariant-loop-i l = Replaced 0 8 (λ i. get_or (get_or l.x i []) l.j 0) l.initial.p-items l.i l.p-items
