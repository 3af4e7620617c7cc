-- Strings of bytes.
use Rattle.std.specs.Prelude.{Bool, true, ◌&&◌, ℕ, zero, suc, ◌+◌, ◌*◌, ◌/◌, ◌%◌, ◌^◌, ◌<◌, eqb, length, get_or}
use mathlib.Core.List.{List, [], ◌∷◌, zip_with}
use Rattle.std.specs.Int.Bits.{bit_xor}

-- every element is a byte; past the last stands 0, so the bound is said of every index
pub record Bytes (s : List ℕ) : Type 0 where
  pub fit : (i : ℕ) → get_or s i 0 < 256

-- the k lowest bytes of a number, the highest first
unfoldable pub big_endian : ℕ → ℕ → List ℕ
big_endian zero v = []
big_endian (suc k) v = v / 256 ^ k % 256 ∷ big_endian k v

-- the number whose bytes these are, the highest first
unfoldable pub number_of : List ℕ → ℕ
number_of [] = 0
number_of (b ∷ s) = b * 256 ^ length s + number_of s

-- the first n bytes of two strings are the same
abbrev pub same_bytes : ℕ → List ℕ → List ℕ → Bool
same_bytes zero x y = true
same_bytes (suc n) x y = same_bytes n x y && eqb (get_or x n 0) (get_or y n 0)

-- two strings added by xor, as far as both go
unfoldable pub added : List ℕ → List ℕ → List ℕ
added x y = zip_with bit_xor x y
