-- c are taken away by the first j trigrams of t.
use mathlib.Core.Path.{◌≡◌}
use Prim.Native.Nat.{◌+◌, ◌≤◌}
use lib.ListN.{length, get_or, drop}
use Rattle.trigrams.specs.Trigrams.{trigrams}
use Rattle.trigrams.specs.Taken.{taken}
use Rattle.tally.specs.Code.{counted, Searched}
use Rattle.tally.proofs.Nodes.take_all.Given as goal

abbrev pub invariant-loop-j : goal.invariant-loop-j
invariant-loop-j g l = record {
  few : l.c ≤ l.j;
  none : get_or l.counts 0 0 ≡ 0;
  long : length l.counts ≡ g.row.N;
  left : Searched l.initial.self l.self;
  all : l.c + taken (counted l.self l.counts) (drop l.j (trigrams l.t)) ≡ taken (counted l.initial.self l.initial.counts) (trigrams l.t);
}
