-- What two lists share is what the second can take from a count of the first.
use mathlib.Core.Path.{◌≡◌, refl, ap, ap₂, ◌∙◌, fun_ext}
use mathlib.Core.Bool.{cond}
use mathlib.Core.List.{List, [], ◌∷◌}
use Prim.Native.Nat.{ℕ, suc, ◌+◌, ◌-◌, min}
use native.Mathlib.Decide.{ℕ_discrete}
use native.Mathlib.Omega.{arith}
use borrow.Author.Tests.{eq-eqb, ne_eqb}
use lib.Dec.{eqb}
use Rattle.trigrams.specs.Trigrams.{count, less, shared}
use Rattle.trigrams.specs.Taken.{put, taken}
use Rattle.trigrams.proofs.Common.{count_less, put_other, shared_nil, shared_step}

pub shared_taken : (x y : List ℕ) → shared x y ≡ taken (λ v. count v x) y
unfolding taken
shared_taken x [] = shared_nil x
shared_taken x (v ∷ y) =
    shared_step x v y
    ∙ ap₂ (λ m n. cond (eqb (count v x) 0) m (suc n)) (shared_taken x y)
    (shared_taken (less v x) y ∙ ap (λ m. taken m y) (fun_ext (λ w. count_less v x w)))

pub taken_nil : (m : ℕ → ℕ) → taken m [] ≡ 0
unfolding taken
taken_nil m = refl

-- an element that is not counted cannot be taken
pub taken_none : (m : ℕ → ℕ) (v : ℕ) (y : List ℕ) → m v ≡ 0 → taken m (v ∷ y) ≡ taken m y
unfolding taken
taken_none m v y z = rw (eq-eqb (m v) 0 z)

-- and one that is can, once
pub taken_some : (m : ℕ → ℕ) (v : ℕ) (y : List ℕ) → (m v ≡ 0 → ⊥) → taken m (v ∷ y) ≡ suc (taken (put m v (m v - 1)) y)
unfolding taken
taken_some m v y z = rw (ne_eqb (m v) 0 z)

-- a count with its own number at v
pub put_own : (m : ℕ → ℕ) (v n : ℕ) → n ≡ m v → put m v n ≡ m
put_own m v n e = fun_ext (λ w. at w (ℕ_discrete w v))
  where
    at : (w : ℕ) → Dec (w ≡ v) → put m v n w ≡ m w
    at w (yes q) = rw (q, eq-eqb v v refl) e
    at w (no d) = put_other m v n w d

-- both at once
pub taken_step : (m : ℕ → ℕ) (v : ℕ) (y : List ℕ) → taken m (v ∷ y) ≡ min 1 (m v) + taken (put m v (m v - 1)) y
taken_step m v y = at (ℕ_discrete (m v) 0)
  where
    at : Dec (m v ≡ 0) → taken m (v ∷ y) ≡ min 1 (m v) + taken (put m v (m v - 1)) y
    at (yes z) = omega (arith, taken_none m v y z, ap (λ k. taken k y) (put_own m v (m v - 1) (omega arith)))
    at (no z) = omega (arith, taken_some m v y z)
