-- What is taken, range by range.
use mathlib.Core.Path.{◌≡◌, refl, sym, ap, ap₂, ◌∙◌, fun_ext}
use mathlib.Core.Bool.{Bool, true, false, cond}
use mathlib.Core.List.{List, [], ◌∷◌}
use Prim.Native.Nat.{ℕ, suc, ◌+◌, ◌-◌, ◌/◌, ◌≤◌, ◌<◌, min}
use native.Mathlib.Decide.{ℕ_discrete}
use native.Mathlib.Numerals.{add-one}
use native.Mathlib.Omega.{arith}
use borrow.Author.Tests.{eq-eqb, ne_eqb}
use lib.Dec.{eqb}
use lib.ListN.{length, get_or}
use Rattle.bits.specs.Bytes.{Bytes}
use Rattle.trigrams.specs.Trigrams.{trigrams, count, shared}
use Rattle.trigrams.specs.Taken.{put, taken}
use Rattle.trigrams.proofs.Trigrams.{length_trigrams, trigrams_small}
use Rattle.trigrams.proofs.Common.{shared_le}
use Rattle.trigrams.proofs.Taken.{shared_taken, taken_nil, taken_step}
use Rattle.ranges.specs.Ranges.{within, shared_in, sum_to, shared_below}
use Rattle.ranges.proofs.Sums.{sum_none, sum_more, sum_zero, sum_add, sum_one, sum_le}

pub within_same : (range : ℕ) (m : ℕ → ℕ) (v : ℕ) → v / 4096 ≡ range → within range m v ≡ m v
within_same range m v e = rw (eq-eqb (v / 4096) range e)

pub within_other : (range : ℕ) (m : ℕ → ℕ) (v : ℕ) → (v / 4096 ≡ range → ⊥) → within range m v ≡ 0
within_other range m v d = rw (ne_eqb (v / 4096) range d)

-- one v less, in every range
pub within_less : (range : ℕ) (m : ℕ → ℕ) (v : ℕ) → put (within range m) v (within range m v - 1) ≡ within range (put m v (m v - 1))
within_less range m v = fun_ext (λ w. at w (ℕ_discrete w v) (ℕ_discrete (v / 4096) range))
  where
    at : (w : ℕ) → Dec (w ≡ v) → Dec (v / 4096 ≡ range)
        → put (within range m) v (within range m v - 1) w ≡ within range (put m v (m v - 1)) w
    at w (yes e) (yes q) = rw (e, eq-eqb v v refl, eq-eqb (v / 4096) range q)
    at w (yes e) (no q) = rw (e, eq-eqb v v refl, ne_eqb (v / 4096) range q)
    at w (no d) q = rw (ne_eqb w v d)

-- of numbers that are all in the first n ranges, as many are taken in the ranges together
pub taken_ranges : (n : ℕ) (m : ℕ → ℕ) (y : List ℕ) → ((i : ℕ) → get_or y i 0 / 4096 < n) → sum_to n (λ h. taken (within h m) y) ≡ taken m y
taken_ranges n m [] small = ap (sum_to n) (fun_ext (λ h. taken_nil (within h m))) ∙ sum_zero n ∙ sym (taken_nil m)
taken_ranges n m (v ∷ y) small =
    ap (sum_to n) (fun_ext step)
    ∙ sum_add n (λ h. cond (eqb (v / 4096) h) (min 1 (m v)) 0) (λ h. taken (within h (put m v (m v - 1))) y)
    ∙ ap₂ (λ a b. a + b) (sum_one n (v / 4096) (min 1 (m v)) (small 0)) (taken_ranges n (put m v (m v - 1)) y (λ i. small (suc i)))
    ∙ sym (taken_step m v y)
  where
    one : (b : Bool) → min 1 (cond b (m v) 0) ≡ cond b (min 1 (m v)) 0
    one true = refl
    one false = refl

    step : (h : ℕ) → taken (within h m) (v ∷ y) ≡ cond (eqb (v / 4096) h) (min 1 (m v)) 0 + taken (within h (put m v (m v - 1))) y
    step h = taken_step (within h m) v y ∙ ap₂ (λ a b. a + b) (one (eqb (v / 4096) h)) (ap (λ k. taken k y) (within_less h m v))

module _ (x y : List ℕ) where
  pub below_none : shared_below 0 x y ≡ 0
  below_none = sum_none (λ h. shared_in h x y)

  pub below_more : (n : ℕ) → shared_below (n + 1) x y ≡ shared_below n x y + shared_in n x y
  below_more n = rw (add-one n) (sum_more n (λ h. shared_in h x y))

-- a trigram of bytes is in one of the first 4,096 ranges
module _ (x : List ℕ) {s : List ℕ} (b : Bytes s) where
  pub below_all : shared_below 4096 x (trigrams s) ≡ shared x (trigrams s)
  unfolding shared_in
  below_all = taken_ranges 4096 (λ v. count v x) (trigrams s) (λ i. omega (arith, trigrams_small b i)) ∙ sym (shared_taken x (trigrams s))

  pub below_le : (n : ℕ) → n ≤ 4096 → shared_below n x (trigrams s) ≤ length s
  below_le n h =
      omega (arith, sum_le n 4096 (λ h. shared_in h x (trigrams s)) h, below_all, shared_le x (trigrams s), length_trigrams s)
