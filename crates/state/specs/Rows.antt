-- The state of both ciphers: rows.
use Rattle.std.specs.Prelude.{◌≡◌, List, ℕ, ◌^◌, ◌<◌, length, get_or}
use Rattle.std.specs.Int.Bits.{bit_xor}
use Rattle.bits.specs.Table.{tab}

-- "a state 8 rows of 16 bits". Past the last row stands 0, so the bound is said of every index.
pub record Rows (w : List ℕ) : Type 0 where
  pub long : length w ≡ 8
  pub words : (i : ℕ) → get_or w i 0 < 2 ^ 16

-- two states added by xor
unfoldable pub add_rows : List ℕ → List ℕ → List ℕ
add_rows x y = tab 8 (λ i. bit_xor (get_or x i 0) (get_or y i 0))
