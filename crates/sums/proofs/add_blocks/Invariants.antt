-- The loop has added the first blocks.
use mathlib.Core.Path.{◌≡◌}
use Rattle.blockwise.specs.Blocks.{block}
use Rattle.sums.specs.Sums.{sum_from}
use Rattle.sums.proofs.add_blocks.Given as goal

abbrev pub invariant-loop-b : goal.invariant-loop-b
invariant-loop-b l = l.r ≡ sum_from l.initial.r l.b-index (block l.fn.s)
