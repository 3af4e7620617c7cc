-- Blocks and states: bytes and rows, there and back.
use mathlib.Core.Path.{◌≡◌, refl, ap, ◌∙◌}
use mathlib.Core.List.{List, [], ◌∷◌}
use Prim.Native.Nat.{ℕ, zero, suc, ◌+◌, ◌-◌, ◌*◌, ◌/◌, ◌%◌, ◌^◌, ◌<◌}
use native.Mathlib.Omega.{arith}
use lib.ListN.{length, get_or}
use lib.Pow.{pow_pos}
use Rattle.state.specs.Rows.{Rows}
use Rattle.state.specs.Block.{Block, rows, bytes}

pub rows_bytes : (w : List ℕ) → ((i : ℕ) → get_or w i 0 < 2 ^ 16) → rows (bytes w) ≡ w
unfolding rows bytes
rows_bytes [] h = refl
rows_bytes (x ∷ w) h = cc (rows_bytes w (λ i. h (suc i)), halves x (h 0))
  where
    halves : (x : ℕ) → x < 2 ^ 16 → x % 256 + x / 256 % 256 * 256 ≡ x
    halves x l = omega arith

pub bytes_rows : (n : ℕ) (b : List ℕ) → length b ≡ 2 * n → ((i : ℕ) → get_or b i 0 < 256) → bytes (rows b) ≡ b
unfolding rows bytes
bytes_rows n [] e h = refl
bytes_rows n (x ∷ []) e h = absurd (odd n e)
  where
    odd : (n : ℕ) → 1 ≡ 2 * n → ⊥
    odd n e = omega arith
bytes_rows n (x ∷ y ∷ b) e h = cc (bytes_rows (n - 1) b (less n (length b) e) (λ i. h (suc (suc i))), low x y (h 0), high x y (h 0) (h 1))
  where
    less : (n l : ℕ) → suc (suc l) ≡ 2 * n → l ≡ 2 * (n - 1)
    less n l e = omega arith

    low : (x y : ℕ) → x < 256 → (x + y * 256) % 256 ≡ x
    low x y hx = omega arith

    high : (x y : ℕ) → x < 256 → y < 256 → (x + y * 256) / 256 % 256 ≡ y
    high x y hx hy = omega arith

pub rows_long : (n : ℕ) (b : List ℕ) → length b ≡ 2 * n → length (rows b) ≡ n
unfolding rows
rows_long n [] e = omega arith
rows_long n (x ∷ []) e = absurd (odd n e)
  where
    odd : (n : ℕ) → 1 ≡ 2 * n → ⊥
    odd n e = omega arith
rows_long zero (x ∷ y ∷ b) e = absurd (none (length b) e)
  where
    none : (l : ℕ) → suc (suc l) ≡ 0 → ⊥
    none l e = omega arith
rows_long (suc n) (x ∷ y ∷ b) e = ap suc (rows_long n b (less n (length b) e))
  where
    less : (n l : ℕ) → suc (suc l) ≡ 2 * suc n → l ≡ 2 * n
    less n l e = omega arith

rows_words : (b : List ℕ) → ((i : ℕ) → get_or b i 0 < 256) → (i : ℕ) → get_or (rows b) i 0 < 2 ^ 16
unfolding rows
rows_words [] h i = pow_pos 16
rows_words (x ∷ []) h i = pow_pos 16
rows_words (x ∷ y ∷ b) h zero = omega (arith, h 0, h 1)
rows_words (x ∷ y ∷ b) h (suc i) = rows_words b (λ i. h (suc (suc i))) i

pub block_rows : (b : List ℕ) → Block b → Rows (rows b)
block_rows b k = record { long = rows_long 8 b k.long; words = rows_words b k.fit }

pub bytes_long : (w : List ℕ) → length (bytes w) ≡ 2 * length w
unfolding bytes
bytes_long [] = refl
bytes_long (x ∷ w) = ap (λ n. suc (suc n)) (bytes_long w) ∙ two-more (length w)
  where
    two-more : (l : ℕ) → suc (suc (2 * l)) ≡ 2 * suc l
    two-more l = omega arith

bytes_fit : (w : List ℕ) (i : ℕ) → get_or (bytes w) i 0 < 256
unfolding bytes
bytes_fit [] i = pow_pos 8
bytes_fit (x ∷ w) zero = omega arith
bytes_fit (x ∷ w) (suc zero) = omega arith
bytes_fit (x ∷ w) (suc (suc i)) = bytes_fit w i

pub rows_block : (w : List ℕ) → Rows w → Block (bytes w)
rows_block w r = record { long = bytes_long w ∙ ap (λ (n : ℕ). 2 * n) r.long; fit = bytes_fit w }
