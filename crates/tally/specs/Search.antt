-- What a search hands on; no entry point's contract speaks of it.
use Rattle.std.specs.Prelude.{◌≡◌, List, ℕ, ◌≤◌, get_or}
use Rattle.tally.specs.Tally.{look}

-- the node of v that a search finds, on the chain from a node on
pub record Found (keys next : List ℕ) (v from r : ℕ) : Type 0 where
  pub is : r ≡ look next (λ k. get_or keys k 0) v from from
  pub within : r ≤ from
