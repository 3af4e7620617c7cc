-- The loop has taken c of the first j trigrams.
use mathlib.Core.Path.{◌≡◌}
use Prim.Native.Nat.{◌+◌, ◌≤◌}
use lib.ListN.{length, drop}
use Rattle.trigrams.specs.Trigrams.{trigrams}
use Rattle.trigrams.specs.Taken.{taken}
use Rattle.ranges.specs.Ranges.{held}
use Rattle.ranges.proofs.take_in.Given as goal

abbrev pub invariant-loop-j : goal.invariant-loop-j
invariant-loop-j l = record {
  few : l.c ≤ l.j;
  long : length l.counts ≡ 4096;
  all : l.c + taken (held l.range l.counts) (drop l.j (trigrams l.b)) ≡ taken (held l.range l.initial.counts) (trigrams l.b);
}
