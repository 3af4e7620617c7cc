-- The words before c are done, and those D further on than they.
use mathlib.Core.Path.{◌≡◌}
use Rattle.transposition.proofs.Rows.{exchanges_in}
use Rattle.transposition.proofs.within.level.Given as goal

abbrev pub invariant-loop-c : goal.invariant-loop-c
invariant-loop-c g l = l.r ≡ exchanges_in g.row.D g.row.MASK l.c l.initial.r
