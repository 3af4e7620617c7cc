-- What loading reads and storing writes: blocks as two words each, four rows in a word. The 128 words of 64 blocks stand in eight rows of sixteen:
-- the first words of the blocks, and behind them the second ones.
use Rattle.std.specs.Prelude.{◌≡◌, List, ℕ, ◌+◌, ◌*◌, ◌/◌, ◌%◌, ◌^◌, ◌<◌, length, get_or, take, drop}
use Rattle.bits.specs.Table.{tab}
use Rattle.state.specs.Block.{rows}
use Rattle.transposition.specs.Levels.{word_at}
use Rattle.planes.specs.Planes.{Shaped, lane}

-- the row whose bytes stand at a place: "byte 2i as its low half and 2i+1 as its high half"
abbrev pub row_from : List ℕ → ℕ → ℕ
row_from s at = get_or s at 0 + get_or s (at + 1) 0 * 256

-- the q-th sixteen bits of a word
abbrev pub digit : ℕ → ℕ → ℕ
digit w q = w / 2 ^ (16 * q) % 65536

-- a word with the four rows at a place
pub record Four (s : List ℕ) (at w : ℕ) : Type 0 where
  pub first : digit w 0 ≡ row_from s at
  pub second : digit w 1 ≡ row_from s (at + 2)
  pub third : digit w 2 ≡ row_from s (at + 4)
  pub fourth : digit w 3 ≡ row_from s (at + 6)

-- sixteen words, of which the first k are such of k blocks, from a place on
pub record Fours (s : List ℕ) (at k : ℕ) (r : List ℕ) : Type 0 where
  pub long : length r ≡ 16
  pub fours : (c : ℕ) → c < k → Four s (at + 16 * c) (get_or r c 0)

-- planes whose states are the 64 blocks at a place
pub record Loaded (s : List ℕ) (at : ℕ) (x : List (List ℕ)) : Type 0 where
  pub shape : Shaped x
  pub lanes : (b : ℕ) → b < 64 → lane x b ≡ rows (take 16 (drop (at + 16 * b) s))

-- the rows of block b, of which words b and 64 + b have four each
unfoldable pub rows_in : List (List ℕ) → ℕ → List ℕ
rows_in y b = tab 8 (λ i. digit (word_at y (64 * (i / 4) + b)) (i % 4))
