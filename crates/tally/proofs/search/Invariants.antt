-- A node of another trigram is passed; the sentinel ends the search.
use mathlib.Core.Path.{◌≡◌}
use Prim.Native.Nat.{◌≤◌}
use lib.ListN.{get_or}
use Rattle.tally.specs.Tally.{look}
use Rattle.tally.proofs.search.Given as goal

abbrev pub invariant-loop-k : goal.invariant-loop-k
invariant-loop-k l = record {
  within : l.k ≤ l.from;
  ahead : look l.next (λ j. get_or l.keys j 0) l.v l.from l.from ≡ look l.next (λ j. get_or l.keys j 0) l.v l.k l.k;
}

abbrev pub decreases-loop-k : goal.decreases-loop-k
decreases-loop-k l = l.k
