-- The rows before i are done, and their partners.
use mathlib.Core.Path.{◌≡◌}
use Rattle.transposition.proofs.Rows.{exchanges}
use Rattle.transposition.proofs.between.level.Given as goal

abbrev pub invariant-loop-i : goal.invariant-loop-i
invariant-loop-i g l = l.x ≡ exchanges g.row.D g.row.MASK l.i l.initial.x
