-- The loop adds the rows from the last to the first: what it has is the product with the matrix from row i on.
use mathlib.Core.Path.{◌≡◌}
use lib.ListN.{drop}
use Rattle.lbox.specs.Lbox
use Rattle.lbox.proofs.times.Given as goal

abbrev pub invariant-loop-i : goal.invariant-loop-i
invariant-loop-i l = l.product ≡ Lbox.times (drop l.i l.m) l.x
