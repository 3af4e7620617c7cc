-- Numbers counted in ranges: those that are the same number when divided by 4,096, each at its own place of a table. No entry point's contract
-- speaks of it.
use Rattle.std.specs.Prelude.{◌≡◌, Bool, cond, false, List, ℕ, zero, suc, ◌+◌, ◌/◌, ◌%◌, eqb, length, get_or}
use Rattle.trigrams.specs.Trigrams.{count}
use Rattle.trigrams.specs.Taken.{taken}

-- a count of the numbers of one range alone
abbrev pub within : ℕ → (ℕ → ℕ) → ℕ → ℕ
within range m v = cond (eqb (v / 4096) range) (m v) 0

-- what a table counts, each number of the range at its place
abbrev pub held : ℕ → List ℕ → ℕ → ℕ
held range table = within range (λ v. get_or table (v % 4096) 0)

-- the table counts the numbers of the list x that are in the range
pub record Counted (range : ℕ) (x table : List ℕ) : Type 0 where
  pub long : length table ≡ 4096
  pub counts : (v : ℕ) → v / 4096 ≡ range → get_or table (v % 4096) 0 ≡ count v x

-- how many numbers of one range two lists share
unfoldable pub shared_in : ℕ → List ℕ → List ℕ → ℕ
shared_in range x y = taken (within range (λ v. count v x)) y

-- f 0 + f 1 + .. + f (n - 1)
unfoldable pub sum_to : ℕ → (ℕ → ℕ) → ℕ
sum_to zero f = 0
sum_to (suc n) f = sum_to n f + f n

-- how many numbers of the first n ranges
abbrev pub shared_below : ℕ → List ℕ → List ℕ → ℕ
shared_below n x y = sum_to n (λ range. shared_in range x y)

-- a range in which the list x has numbers is marked
pub record Marked (x : List ℕ) (marks : List Bool) : Type 0 where
  pub long : length marks ≡ 4096
  pub none : (v : ℕ) → get_or marks (v / 4096) false ≡ false → count v x ≡ 0
