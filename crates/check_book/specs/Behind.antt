-- What is put at a place.
use Rattle.std.specs.Prelude.{◌≡◌, List, ◌++◌, ℕ, ◌+◌, length, take, drop}

-- s was put at a place of d, which gave e: the other bytes stay, and r is the place behind s
pub record Behind (at : ℕ) (s d e : List ℕ) (r : ℕ) : Type 0 where
  pub place : r ≡ at + length s
  pub bytes : e ≡ take at d ++ (s ++ drop (at + length s) d)
