-- Blocks of bytes, and the state's rows that they are.
use Rattle.std.specs.Prelude.{◌≡◌, List, [], ◌∷◌, ℕ, ◌+◌, ◌*◌, ◌/◌, ◌%◌, ◌<◌, length, get_or}

-- "A block is 16 bytes." Past the last byte stands 0, so the bound is said of every index.
pub record Block (b : List ℕ) : Type 0 where
  pub long : length b ≡ 16
  pub fit : (i : ℕ) → get_or b i 0 < 256

-- "Row i takes byte 2i as its low half and 2i+1 as its high half."
unfoldable pub rows : List ℕ → List ℕ
rows [] = []
rows (low ∷ []) = []
rows (low ∷ high ∷ b) = (low + high * 256) ∷ rows b

-- the bytes of the rows, in the same order
unfoldable pub bytes : List ℕ → List ℕ
bytes [] = []
bytes (row ∷ w) = (row % 256) ∷ (row / 256 % 256) ∷ bytes w
