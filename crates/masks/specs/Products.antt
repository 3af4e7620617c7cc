-- A matrix times each of the four rows in a word. No entry point's contract cites this crate.
use Rattle.std.specs.Prelude.{◌≡◌, List, ℕ, zero, suc, ◌*◌, ◌/◌, ◌%◌, ◌^◌, get_or}
use Rattle.std.specs.Int.Bits.{bit_and, bit_xor}
use Rattle.lbox.specs.Lbox.{times}

-- the rows in r are the matrix times those in x
pub record Products (m : List (List ℕ)) (x r : ℕ) : Type 0 where
  pub first : r % 65536 ≡ times m (x % 65536)
  pub second : r / 65536 % 65536 ≡ times m (x / 65536 % 65536)
  pub third : r / 4294967296 % 65536 ≡ times m (x / 4294967296 % 65536)
  pub fourth : r / 281474976710656 % 65536 ≡ times m (x / 281474976710656 % 65536)

-- the lowest bit of each of the four rows
abbrev pub ones : ℕ
ones = 0x0001000100010001

-- f 0, up to f (n - 1), added by xor
unfoldable pub sum : ℕ → (ℕ → ℕ) → ℕ
sum zero f = 0
sum (suc n) f = bit_xor (sum n f) (f n)

-- for each i below n, bit i of each of the four rows in x times the column i
abbrev pub sum_of : ℕ → List ℕ → ℕ → ℕ
sum_of n columns x = sum n (λ i. bit_and (x / 2 ^ i) ones * get_or columns i 0)
