-- Squares of 64 times 64 bits, which the code turns: two of them in eight rows of sixteen words, one in the rows 0 to 3 and one in the rows
-- 4 to 7. No entry point's contract cites this crate.
use Rattle.std.specs.Prelude.{Bool, cond, ◌||◌, ◌≡◌, List, [], ℕ, ◌+◌, ◌-◌, ◌*◌, ◌/◌, ◌%◌, ◌^◌, eqb, get_or, set}
use Rattle.std.specs.Int.Bits.{bit_and, bit_xor}
use Rattle.bits.specs.Table.{tab}

-- how far apart what is exchanged may be: within a row, and between rows
abbrev pub in_a_row : ℕ → Bool
in_a_row d = eqb d 1 || (eqb d 2 || (eqb d 4 || eqb d 8))

abbrev pub between_rows : ℕ → Bool
between_rows d = eqb d 16 || eqb d 32

-- word n of all
abbrev pub word_at : List (List ℕ) → ℕ → ℕ
word_at x n = get_or (get_or x (n / 16) []) (n % 16) 0

-- In what the bits d places up in the first word and those of the second differ, where the mask m has a bit: added to both, it exchanges them.
abbrev pub passed : ℕ → ℕ → ℕ → ℕ → ℕ
passed d m p q = bit_and (bit_xor (p / 2 ^ d) q) m

-- the first word then, and the second
abbrev pub lower : ℕ → ℕ → ℕ → ℕ → ℕ
lower d m p q = bit_xor p (passed d m p q * 2 ^ d % 2 ^ 64)

abbrev pub upper : ℕ → ℕ → ℕ → ℕ → ℕ
upper d m p q = bit_xor q (passed d m p q)

-- word n, where each word whose number has the bit of weight d as 0 is exchanged with the one d further on
abbrev pub exchanged : ℕ → ℕ → List (List ℕ) → ℕ → ℕ
exchanged d m x n = cond (eqb (n / d % 2) 0) (lower d m (word_at x n) (word_at x (n + d))) (upper d m (word_at x (n - d)) (word_at x n))

-- all words so: one level
unfoldable pub level : ℕ → ℕ → List (List ℕ) → List (List ℕ)
level d m x = tab 8 (λ i. tab 16 (λ c. exchanged d m x (16 * i + c)))

-- the levels within rows
unfoldable pub within : List (List ℕ) → List (List ℕ)
within x = level 8 0x00FF00FF00FF00FF (level 4 0x0F0F0F0F0F0F0F0F (level 2 0x3333333333333333 (level 1 0x5555555555555555 x)))

-- All six levels: what stands in word n at bit k goes to word k of the same square, bit n mod 64.
unfoldable pub turned : List (List ℕ) → List (List ℕ)
turned x = level 32 0x00000000FFFFFFFF (level 16 0x0000FFFF0000FFFF (within x))

-- one level within one row
abbrev pub exchanged_in : ℕ → ℕ → List ℕ → ℕ → ℕ
exchanged_in d m r c = cond (eqb (c / d % 2) 0) (lower d m (get_or r c 0) (get_or r (c + d) 0)) (upper d m (get_or r (c - d) 0) (get_or r c 0))

unfoldable pub level_in : ℕ → ℕ → List ℕ → List ℕ
level_in d m r = tab 16 (exchanged_in d m r)

unfoldable pub turned_row : List ℕ → List ℕ
turned_row r = level_in 8 0x00FF00FF00FF00FF (level_in 4 0x0F0F0F0F0F0F0F0F (level_in 2 0x3333333333333333 (level_in 1 0x5555555555555555 r)))

-- two rows, and what they become
abbrev pub lower_row : ℕ → ℕ → List ℕ → List ℕ → List ℕ
lower_row d m a b = tab 16 (λ c. lower d m (get_or a c 0) (get_or b c 0))

abbrev pub upper_row : ℕ → ℕ → List ℕ → List ℕ → List ℕ
upper_row d m a b = tab 16 (λ c. upper d m (get_or a c 0) (get_or b c 0))

pub record Exchanged (d m : ℕ) (a b a' b' : List ℕ) : Type 0 where
  pub first : a' ≡ lower_row d m a b
  pub second : b' ≡ upper_row d m a b

-- row i and row i + e exchanged
unfoldable pub exchanged_rows : ℕ → ℕ → ℕ → List (List ℕ) → ℕ → List (List ℕ)
exchanged_rows d m e x i = set (set x i (lower_row d m (get_or x i []) (get_or x (i + e) []))) (i + e) (upper_row d m (get_or x i []) (get_or x (i + e) []))
