-- The loop has counted the first i trigrams.
use lib.ListN.{take}
use Rattle.trigrams.specs.Trigrams.{trigrams}
use Rattle.ranges.specs.Ranges.{Counted}
use Rattle.ranges.proofs.count_in.Given as goal

abbrev pub invariant-loop-i : goal.invariant-loop-i
invariant-loop-i l = Counted l.range (take l.i (trigrams l.a)) l.counts
