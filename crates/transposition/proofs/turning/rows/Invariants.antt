-- The rows so far are turned.
use mathlib.Core.List.{[]}
use lib.ListN.{get_or}
use Rattle.bits.proofs.Elements.{Replaced}
use Rattle.transposition.specs.Levels.{turned_row}
use Rattle.transposition.proofs.turning.rows.Given as goal

abbrev pub invariant-loop-r : goal.invariant-loop-r
invariant-loop-r l = Replaced [] 8 (λ j. turned_row (get_or l.initial.x j [])) l.initial.x l.r-index l.x
