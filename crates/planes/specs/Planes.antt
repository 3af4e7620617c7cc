-- Sixty-four states side by side, as the code holds them: eight rows of sixteen planes. Plane j of row i has bit j of row i of every state,
-- that of state b as its bit b. No entry point's contract cites this crate; the theorem of the tables cites `row_at`.
use Rattle.std.specs.Prelude.{◌≡◌, List, [], ℕ, ◌<◌, length, get_or, set}
use Rattle.bits.specs.Bit.{bit, gather}
use Rattle.bits.specs.Table.{tab}

-- the row of state b in its sixteen planes
unfoldable pub row_at : List ℕ → ℕ → ℕ
row_at r b = gather 16 (λ j. bit (get_or r j 0) b)

-- the eight rows of state b
unfoldable pub lane : List (List ℕ) → ℕ → List ℕ
lane x b = tab 8 (λ i. row_at (get_or x i []) b)

-- eight rows of sixteen planes
pub record Shaped (x : List (List ℕ)) : Type 0 where
  pub long : length x ≡ 8
  pub wide : (i : ℕ) → i < 8 → length (get_or x i []) ≡ 16

-- from x to y each of the 64 states goes by g, which may be another for each
pub record Goes (g : ℕ → List ℕ → List ℕ) (x y : List (List ℕ)) : Type 0 where
  pub shape : Shaped y
  pub lanes : (b : ℕ) → b < 64 → lane y b ≡ g b (lane x b)

-- the planes j of all rows, row 0 first
abbrev pub column_of : List (List ℕ) → ℕ → List ℕ
column_of x j = tab 8 (λ i. get_or (get_or x i []) j 0)

-- x with these in their place
unfoldable pub with_column : List (List ℕ) → ℕ → List ℕ → List (List ℕ)
with_column x j y = tab 8 (λ i. set (get_or x i []) j (get_or y i 0))
