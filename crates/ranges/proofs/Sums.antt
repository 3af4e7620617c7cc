-- Sums over the first numbers.
use mathlib.Core.Path.{◌≡◌, refl}
use mathlib.Core.Bool.{cond}
use Prim.Native.Nat.{ℕ, zero, suc, ◌+◌, ◌≤◌, ◌<◌}
use native.Mathlib.Decide.{ℕ_discrete}
use native.Mathlib.Omega.{arith}
use borrow.Author.Tests.{eq-eqb, ne_eqb}
use lib.Dec.{eqb}
use Rattle.ranges.specs.Ranges.{sum_to}

pub sum_more : (n : ℕ) (f : ℕ → ℕ) → sum_to (suc n) f ≡ sum_to n f + f n
unfolding sum_to
sum_more n f = refl

pub sum_none : (f : ℕ → ℕ) → sum_to 0 f ≡ 0
unfolding sum_to
sum_none f = refl

pub sum_zero : (n : ℕ) → sum_to n (λ h. 0) ≡ 0
unfolding sum_to
sum_zero zero = refl
sum_zero (suc n) = omega (arith, sum_zero n)

pub sum_add : (n : ℕ) (f g : ℕ → ℕ) → sum_to n (λ h. f h + g h) ≡ sum_to n f + sum_to n g
unfolding sum_to
sum_add zero f g = omega arith
sum_add (suc n) f g = omega (arith, sum_add n f g)

-- of a sum with one term, at k
pub sum_past : (n k x : ℕ) → n ≤ k → sum_to n (λ h. cond (eqb k h) x 0) ≡ 0
unfolding sum_to
sum_past zero k x l = refl
sum_past (suc n) k x l = rw (ne_eqb k n (omega arith)) (omega (arith, sum_past n k x (omega arith)))

pub sum_one : (n k x : ℕ) → k < n → sum_to n (λ h. cond (eqb k h) x 0) ≡ x
unfolding sum_to
sum_one zero k x l = absurd (omega arith)
sum_one (suc n) k x l = at (ℕ_discrete k n) (sum_one n k x)
  where
    at : Dec (k ≡ n) → (k < n → sum_to n (λ h. cond (eqb k h) x 0) ≡ x) → sum_to n (λ h. cond (eqb k h) x 0) + cond (eqb k n) x 0 ≡ x
    at (yes e) r = rw (eq-eqb k n e) (omega (arith, sum_past n k x (omega arith)))
    at (no d) r = rw (ne_eqb k n d) (omega (arith, r (omega arith)))

pub sum_le : (m n : ℕ) (f : ℕ → ℕ) → m ≤ n → sum_to m f ≤ sum_to n f
unfolding sum_to
sum_le m zero f l =
    let e : m ≡ 0 = omega arith in
    rw e (omega arith)
sum_le m (suc n) f l = at (ℕ_discrete m (suc n)) (sum_le m n f)
  where
    at : Dec (m ≡ suc n) → (m ≤ n → sum_to m f ≤ sum_to n f) → sum_to m f ≤ sum_to n f + f n
    at (yes e) r = rw e (omega arith)
    at (no d) r = omega (arith, r (omega arith))
