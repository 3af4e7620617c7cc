-- The loop has marked the ranges of the first i trigrams.
use lib.ListN.{take}
use Rattle.trigrams.specs.Trigrams.{trigrams}
use Rattle.ranges.specs.Ranges.{Marked}
use Rattle.ranges.proofs.mark.Given as goal

abbrev pub invariant-loop-i : goal.invariant-loop-i
invariant-loop-i l = Marked (take l.i (trigrams l.a)) l.marks
