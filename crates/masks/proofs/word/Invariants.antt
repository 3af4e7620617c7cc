-- The loop has added the products of the first i columns.
use mathlib.Core.Path.{◌≡◌}
use Rattle.masks.specs.Products.{sum_of}
use Rattle.masks.proofs.word.Given as goal

abbrev pub invariant-loop-i : goal.invariant-loop-i
invariant-loop-i l = l.sum ≡ sum_of l.i l.columns l.x
