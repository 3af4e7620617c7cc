-- Strings that are compared byte by byte.
use mathlib.Core.Path.{◌≡◌, refl, sym, ◌∙◌}
use mathlib.Core.Bool.{true, false, ◌&&◌, and-eq-true_iff, and-false}
use mathlib.Core.List.{List}
use Prim.Native.Nat.{ℕ, zero, suc, ◌+◌, ◌<◌}
use native.Mathlib.Decide.{ℕ_discrete}
use native.Mathlib.Numerals.{add-one}
use native.Mathlib.Omega.{arith}
use borrow.Author.Tests.{eqb-true, eq-eqb, ne_eqb}
use lib.Dec.{eqb}
use lib.ListN.{length, get_or}
use lib.Seq.{ext_get_or}
use Rattle.bits.specs.Bytes.{same_bytes}

same_all : (n : ℕ) (x y : List ℕ) → same_bytes n x y ≡ true → (i : ℕ) → i < n → get_or x i 0 ≡ get_or y i 0
same_all zero x y e i h = absurd (omega arith)
same_all (suc n) x y e i h = last (ℕ_discrete i n) (λ l. same_all n x y both.0 i l)
  where
    both : (same_bytes n x y ≡ true) × (eqb (get_or x n 0) (get_or y n 0) ≡ true)
    both = (and-eq-true_iff (same_bytes n x y) (eqb (get_or x n 0) (get_or y n 0))).0 e

    last : Dec (i ≡ n) → (i < n → get_or x i 0 ≡ get_or y i 0) → get_or x i 0 ≡ get_or y i 0
    last (yes p) r = rw p (eqb-true (get_or x n 0) (get_or y n 0) both.1)
    last (no d) r = r (omega arith)

pub same_equal : (n : ℕ) (x y : List ℕ) → length x ≡ n → length y ≡ n → same_bytes n x y ≡ true → x ≡ y
same_equal n x y lx ly e = ext_get_or 0 x y (lx ∙ sym ly) (λ i h. same_all n x y e i (rw lx at h))

pub same_refl : (n : ℕ) (x : List ℕ) → same_bytes n x x ≡ true
same_refl zero x = refl
same_refl (suc n) x = λ i. same_refl n x i && eq-eqb (get_or x n 0) (get_or x n 0) refl i

-- one byte more that is the same
pub same_more : (n : ℕ) (x y : List ℕ) → same_bytes n x y ≡ true → get_or x n 0 ≡ get_or y n 0 → same_bytes (n + 1) x y ≡ true
same_more n x y s e = rw (add-one n) (rw (s, eq-eqb (get_or x n 0) (get_or y n 0) e))

-- a byte that is not
pub same_not : (n i : ℕ) (x y : List ℕ) → i < n → (get_or x i 0 ≡ get_or y i 0 → ⊥) → same_bytes n x y ≡ false
same_not zero i x y h d = absurd (omega arith)
same_not (suc n) i x y h d = at (ℕ_discrete i n) (same_not n i x y)
  where
    at : Dec (i ≡ n) → (i < n → (get_or x i 0 ≡ get_or y i 0 → ⊥) → same_bytes n x y ≡ false)
        → same_bytes n x y && eqb (get_or x n 0) (get_or y n 0) ≡ false
    at (yes e) r = rw (ne_eqb (get_or x n 0) (get_or y n 0) (rw e at d)) (and-false (same_bytes n x y))
    at (no q) r = rw (r (omega arith) d)
