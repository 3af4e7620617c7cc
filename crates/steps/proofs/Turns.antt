-- The loop over the steps, one way or the other.
use mathlib.Core.Path.{◌≡◌, refl, sym, ap, ◌∙◌}
use mathlib.Core.Bool.{Bool, true, false, cond}
use mathlib.Core.List.{List}
use Prim.Native.Nat.{ℕ, suc, ◌+◌, ◌-◌, ◌<◌}
use native.Mathlib.Numerals.{add-one}
use native.Mathlib.Omega.{arith}
use Rattle.rounds.specs.Cipher.{Parts, step, unstep, steps, unsteps}
use Rattle.steps.specs.Ways.{step_by, steps_by}

-- x with i of n turns done is y
abbrev pub is_so_far : Bool → Parts → (ℕ → List ℕ) → ℕ → ℕ → ℕ → List ℕ → List ℕ → Type 0
is_so_far true p tk s n i x y = y ≡ steps p tk s i x
is_so_far false p tk s n i x y = unsteps p tk s (n - i) y ≡ unsteps p tk s n x

pub record SoFar (ahead : Bool) (p : Parts) (tk : ℕ → List ℕ) (s n i : ℕ) (x y : List ℕ) : Type 0 where
  pub is : is_so_far ahead p tk s n i x y

pub none_done : (ahead : Bool) (p : Parts) (tk : ℕ → List ℕ) (s n : ℕ) (x : List ℕ) → SoFar ahead p tk s n 0 x x
unfolding steps
none_done true p tk s n x = record { is = refl }
none_done false p tk s n x = record { is = ap (λ (k : ℕ). unsteps p tk s k x) (omega arith) }

module _ {p : Parts} {tk : ℕ → List ℕ} {s n i : ℕ} {x y : List ℕ} where
  pub one_more : {ahead : Bool} → SoFar ahead p tk s n i x y → i < n → {d : ℕ} → d ≡ cond ahead (s + i) (s + (n - 1 - i))
      → {z : List ℕ} → z ≡ step_by ahead p tk d y → SoFar ahead p tk s n (i + 1) x z
  unfolding steps unsteps
  one_more {ahead = true} f h e g = record { is = g ∙ (λ j. step p tk (e j) (f.is j)) ∙ sym (ap (λ (k : ℕ). steps p tk s k x) (add-one i)) }
  one_more {ahead = false} f h e g =
      let m = n - (i + 1) in
      let d : s + (n - 1 - i) ≡ s + m = omega arith in
      let k : suc m ≡ n - i = omega arith in
      record {
        is = ap (unsteps p tk s m) (g ∙ ap (λ (j : ℕ). unstep p tk j y) (e ∙ d))
            ∙ ap (λ (j : ℕ). unsteps p tk s j y) k
            ∙ f.is;
      }

  pub all_done : {ahead : Bool} → SoFar ahead p tk s n i x y → i ≡ n → y ≡ steps_by ahead p tk s n x
  unfolding unsteps
  all_done {ahead = true} f e = f.is ∙ ap (λ (k : ℕ). steps p tk s k x) e
  all_done {ahead = false} f e =
      let k : 0 ≡ n - i = omega arith in
      ap (λ (j : ℕ). unsteps p tk s j y) k ∙ f.is
