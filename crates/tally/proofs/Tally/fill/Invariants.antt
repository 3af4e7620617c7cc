-- The first i trigrams are counted.
use Prim.Native.Nat.{◌+◌, ◌≤◌}
use lib.ListN.{take}
use Rattle.trigrams.specs.Trigrams.{trigrams}
use Rattle.tally.specs.Code.{Counts}
use Rattle.tally.proofs.Tally.fill.Given as goal

abbrev pub invariant-loop-i : goal.invariant-loop-i
invariant-loop-i g l = record {
  counts : Counts (take l.i (trigrams l.s)) l.self;
  used : l.self.nodes.used ≤ l.i + 1;
}
