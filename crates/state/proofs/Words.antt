-- The state's two words: their 16-bit digits are the rows.
use mathlib.Core.Path.{◌≡◌, refl, sym, ap, ◌∙◌}
use mathlib.Core.List.{List, [], ◌∷◌, ◌++◌}
use Prim.Native.Nat.{ℕ, ◌+◌, ◌*◌, ◌/◌, ◌%◌, ◌^◌, ◌<◌}
use native.Mathlib.Omega.{arith}
use lib.Bits.{bit_xor, xor_shr, xor_mod}
use lib.ListN.{length, get_or, take, drop}
use Rattle.std.specs.Int.{w64, to_le_bytes, from_le_bytes}
use Rattle.bits.specs.Table.{tab}
use Rattle.bits.proofs.Lists.{tab_get_or}
use Rattle.state.specs.declared.State.{State}
use Rattle.state.specs.Block.{rows, bytes}
use Rattle.state.specs.Rows.{add_rows}
use Rattle.state.specs.State.{rows_of}

-- the digits of a word
pub record Digits (x a b c d : ℕ) : Type 0 where
  pub first : x % 65536 ≡ a
  pub second : x / 65536 % 65536 ≡ b
  pub third : x / 4294967296 % 65536 ≡ c
  pub fourth : x / 281474976710656 % 65536 ≡ d

pub digits : {x : ℕ} (a b c d : ℕ) → a < 65536 → b < 65536 → c < 65536 → d < 65536
    → x ≡ a + b * 65536 + c * 4294967296 + d * 281474976710656 → Digits x a b c d
digits a b c d ha hb hc hd e = record { first = omega arith; second = omega arith; third = omega arith; fourth = omega arith }

pub rows_are : (s : State) {a b c d e f g h : ℕ} → Digits s.low a b c d → Digits s.high e f g h
    → rows_of s ≡ a ∷ b ∷ c ∷ d ∷ e ∷ f ∷ g ∷ h ∷ []
unfolding rows_of
rows_are s l k = λ i.
    l.first i ∷ l.second i ∷ l.third i ∷ l.fourth i ∷ k.first i ∷ k.second i ∷ k.third i ∷ k.fourth i ∷ []

digit_xor : (k a b : ℕ) → bit_xor a b / 2 ^ k % 65536 ≡ bit_xor (a / 2 ^ k % 65536) (b / 2 ^ k % 65536)
digit_xor k a b = ap (λ (n : ℕ). n % 65536) (xor_shr a b k) ∙ xor_mod (a / 2 ^ k) (b / 2 ^ k) 16

-- the digits of a sum are the sums of the digits
pub xor_digits : (a b : ℕ) → Digits (bit_xor a b)
    (bit_xor (a % 65536) (b % 65536))
    (bit_xor (a / 65536 % 65536) (b / 65536 % 65536))
    (bit_xor (a / 4294967296 % 65536) (b / 4294967296 % 65536))
    (bit_xor (a / 281474976710656 % 65536) (b / 281474976710656 % 65536))
xor_digits a b = record { first = xor_mod a b 16; second = digit_xor 16 a b; third = digit_xor 32 a b; fourth = digit_xor 48 a b }

pub same_digits : (x : ℕ) → Digits x (x % 65536) (x / 65536 % 65536) (x / 4294967296 % 65536) (x / 281474976710656 % 65536)
same_digits x = record { first = refl; second = refl; third = refl; fourth = refl }

pub add_is : (a b s : State) → s.low ≡ bit_xor a.low b.low → s.high ≡ bit_xor a.high b.high → rows_of s ≡ add_rows (rows_of a) (rows_of b)
unfolding rows_of add_rows
add_is a b s e f =
    rows_are s (rw e (xor_digits a.low b.low)) (rw f (xor_digits a.high b.high))

-- two words of eight bytes each, the first byte lowest: their digits are the rows of a block
rows_of_tab : (s : State) (f : ℕ → ℕ) → ((i : ℕ) → f i < 256)
    → s.low ≡ from_le_bytes w64 (tab 8 f)
    → s.high ≡ from_le_bytes w64 (tab 8 (λ i. f (8 + i)))
    → rows_of s ≡ rows (tab 16 f)
unfolding rows
rows_of_tab s f h low high =
    let row : (i : ℕ) → f i + f (i + 1) * 256 < 65536 = λ i. omega (arith, h i, h (i + 1)) in
    rows_are s
    (digits (f 0 + f 1 * 256) (f 2 + f 3 * 256) (f 4 + f 5 * 256) (f 6 + f 7 * 256) (row 0) (row 2) (row 4) (row 6) (low ∙ omega arith))
    (digits (f 8 + f 9 * 256) (f 10 + f 11 * 256) (f 12 + f 13 * 256) (f 14 + f 15 * 256) (row 8) (row 10) (row 12) (row 14) (high ∙ omega arith))

pub rows_of_block : (s : State) (b : List ℕ) → length b ≡ 16 → ((i : ℕ) → get_or b i 0 < 256)
    → s.low ≡ from_le_bytes w64 (take 8 b) → s.high ≡ from_le_bytes w64 (take 8 (drop 8 b)) → rows_of s ≡ rows b
rows_of_block s b e h low high =
    let is : tab 16 (λ i. get_or b i 0) ≡ b = tab_get_or 16 b e in
    rows_of_tab s (λ i. get_or b i 0) h
    (low ∙ sym (ap (λ (x : List ℕ). from_le_bytes w64 (take 8 x)) is))
    (high ∙ sym (ap (λ (x : List ℕ). from_le_bytes w64 (take 8 (drop 8 x))) is))
    ∙ ap rows is

-- the bytes of a word's digits are the word's
bytes_of_word : (x : ℕ) (w : List ℕ)
    → bytes (x % 65536 ∷ x / 65536 % 65536 ∷ x / 4294967296 % 65536 ∷ x / 281474976710656 % 65536 ∷ w) ≡ to_le_bytes w64 x ++ bytes w
unfolding bytes
bytes_of_word x w =
    let low : (y : ℕ) → y % 65536 % 256 ≡ y % 256 = λ y. omega arith in
    let first : x % 65536 / 256 % 256 ≡ x / 256 % 256 = omega arith in
    let second : x / 65536 % 65536 / 256 % 256 ≡ x / 16777216 % 256 = omega arith in
    let third : x / 4294967296 % 65536 / 256 % 256 ≡ x / 1099511627776 % 256 = omega arith in
    let fourth : x / 281474976710656 % 65536 / 256 % 256 ≡ x / 72057594037927936 % 256 = omega arith in
    λ i.
    low x i ∷ first i
    ∷ low (x / 65536) i ∷ second i
    ∷ low (x / 4294967296) i ∷ third i
    ∷ low (x / 281474976710656) i ∷ fourth i
    ∷ bytes w

pub bytes_of_words : (s : State) → bytes (rows_of s) ≡ to_le_bytes w64 s.low ++ to_le_bytes w64 s.high
unfolding rows_of bytes
bytes_of_words s =
    let high : List ℕ = s.high % 65536 ∷ s.high / 65536 % 65536 ∷ s.high / 4294967296 % 65536 ∷ s.high / 281474976710656 % 65536 ∷ [] in
    bytes_of_word s.low high ∙ ap (λ (x : List ℕ). to_le_bytes w64 s.low ++ x) (bytes_of_word s.high [])
