-- Numbers in decimal, as bytes.
use Rattle.std.specs.Prelude.{◌≡◌, cond, List, [], ◌∷◌, ◌++◌, ℕ, zero, suc, ◌+◌, ◌*◌, ◌-◌, ◌/◌, ◌%◌, ◌^◌, ◌≤◌, leb, ltb, length, drop}

-- the last digit of a number as a byte, 0x30 for `0` to 0x39 for `9`
abbrev pub last_digit : ℕ → ℕ
last_digit n = 0x30 + n % 10

-- the digits of a number that has at most k: the last one, behind those of the tenth part where there is one
unfoldable pub digits_in : ℕ → ℕ → List ℕ
digits_in zero n = []
digits_in (suc k) n = cond (ltb n 10) [] (digits_in k (n / 10)) ++ last_digit n ∷ []

-- the decimal digits of a number, the highest first, with no zero before them; 0 is `0`. A number n has at most n + 1
unfoldable pub digits : ℕ → List ℕ
digits n = digits_in (suc n) n

-- a byte from `0` to `9`
pub record Digit (b : ℕ) : Type 0 where
  pub low : 0x30 ≤ b
  pub high : b ≤ 0x39

-- the number that a string of digits says
unfoldable pub value_of : List ℕ → ℕ
value_of [] = 0
value_of (b ∷ s) = (b - 0x30) * 10 ^ length s + value_of s

-- what is written of a number where there is room for so many bytes: its digits, or nothing where these are more
unfoldable pub digits_within : ℕ → ℕ → List ℕ
digits_within room n = cond (leb (length (digits n)) room) (digits n) []

-- s was written at the start of d, which gave e: the other bytes stay, and r is the length of s
pub record AtStart (s d e : List ℕ) (r : ℕ) : Type 0 where
  pub count : r ≡ length s
  pub bytes : e ≡ s ++ drop (length s) d
