-- What the functions on text blocks ask for, and which part of a text they are lent.
use Rattle.std.specs.Prelude.{◌≡◌, true, ◌⊎◌, List, ℕ, ◌+◌, ◌*◌, ◌%◌, ◌^◌, ◌≤◌, length}
use Rattle.suites.specs.declared.suite.Suite.{Suite}
use Rattle.suites.specs.Suite.{listed}

-- a listed suite and a nonce of at most 15 bytes
pub record Usable (s : Suite) (nonce : List ℕ) : Type 0 where
  pub suite : listed s.cipher s.steps ≡ true
  pub short : length nonce ≤ 15

-- n bytes from block `first` on of a text of m: up to its end, or whole blocks before it
pub record Part (m first n : ℕ) : Type 0 where
  pub small : m ≤ 2 ^ 24
  pub within : 16 * first + n ≤ m
  pub whole : (16 * first + n ≡ m) ⊎ (n % 16 ≡ 0)
