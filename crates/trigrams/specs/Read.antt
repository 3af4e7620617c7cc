-- What the code that reads a trigram hands on; no entry point's contract speaks of it.
use Rattle.std.specs.Prelude.{◌≡◌, List, ℕ, ◌^◌, ◌<◌}
use Rattle.trigrams.specs.Trigrams.{trigram}

pub record Read (s : List ℕ) (i r : ℕ) : Type 0 where
  pub is : r ≡ trigram s i
  pub small : r < 2 ^ 24
