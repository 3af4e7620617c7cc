-- The loop has added the ranges before the next one.
use mathlib.Core.Path.{◌≡◌}
use Rattle.trigrams.specs.Trigrams.{trigrams}
use Rattle.ranges.specs.Ranges.{shared_below}
use Rattle.ranges.proofs.shared.Given as goal

abbrev pub invariant-loop-range : goal.invariant-loop-range
invariant-loop-range l = l.c ≡ shared_below l.range (trigrams l.a) (trigrams l.b)
