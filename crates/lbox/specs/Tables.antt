-- An L-box by tables.
use Rattle.std.specs.Prelude.{List, ℕ, ◌+◌, ◌*◌, ◌/◌, ◌%◌, get_or}
use Rattle.std.specs.Int.Bits.{bit_xor}
use Rattle.bits.specs.Table.{tab}
use Rattle.lbox.specs.Lbox.{times}

-- two byte tables as one of words: the entries of the first are the high halves
unfoldable pub joined : List ℕ → List ℕ → List ℕ
joined high low = tab 256 (λ b. get_or high b 0 * 256 + get_or low b 0)

-- "The rule of each table is that it is a binary matrix times the word." L11 and L12 joined: the product with a word that
-- has only a low byte
unfoldable pub lows : List (List ℕ) → List ℕ
lows m = tab 256 (λ b. times m b)

-- L21 and L22 joined: the product with a word that has only a high byte
unfoldable pub highs : List (List ℕ) → List ℕ
highs m = tab 256 (λ b. times m (b * 256))

-- "L(b0 || b1) = (L11(b1) xor L21(b0)) || (L12(b1) xor L22(b0))"; "b0 is the high byte, b1 the low"
abbrev pub looked_up : List ℕ → List ℕ → ℕ → ℕ
looked_up low high x = bit_xor (get_or low (x % 256) 0) (get_or high (x / 256 % 256) 0)
