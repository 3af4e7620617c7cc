-- An array that is made by a function of the index.
use mathlib.Core.Path.{◌≡◌, refl, ◌∙◌, subst}
use mathlib.Core.List.{List}
use Prim.Native.Nat.{ℕ, zero, suc, ◌+◌, ◌≤◌, ◌<◌}
use native.Mathlib.Decide.{ℕ_discrete}
use native.Mathlib.Omega.{arith}
use lib.ListN.{get_or}
use Rattle.std.specs.Array.{IsFromFnResult, IsFromFnResultFrom}
use Rattle.std.specs.Fn.{Mut, Called}
use Rattle.bits.specs.Table.{tab}
use Rattle.bits.proofs.Lists.{filled_all}

-- No call changes the closure, so that the array is the table of its answers.
module _
    {F : Type 0}
    (g : Mut F (ℕ × Unit {0}) ℕ)
    (f : F)
    (h : ℕ → ℕ)
    (n : ℕ)
    (calls : (i : ℕ) → i < n → (y : ℕ) (q : F) → Called g f (i, tt) y q → (y ≡ h i) × (q ≡ f))
  where
    made_from : (ys : List ℕ) (k i : ℕ) → i + k ≡ n → (p : F) → p ≡ f → IsFromFnResultFrom g p ys i k
        → (j : ℕ) → i ≤ j → j < n → get_or ys j 0 ≡ h j
    made_from ys zero i e p same r j l u = absurd (omega arith)
    made_from ys (suc k) i e p same (q, y, is, call, rest) j l u =
        let one = calls i (omega arith) y q (subst (λ (s : F). Called g s (i, tt) y q) same call) in
        at one (λ d. made_from ys k (i + 1) (omega arith) q one.1 rest j (omega arith) u) (ℕ_discrete j i)
      where
        at : (y ≡ h i) × (q ≡ f) → (¬ (j ≡ i) → get_or ys j 0 ≡ h j) → Dec (j ≡ i) → get_or ys j 0 ≡ h j
        at one later (yes d) = rw d (is.1 0 ∙ one.0)
        at one later (no d) = later d

    pub made_table : {ys : List ℕ} → IsFromFnResult g f ys n → ys ≡ tab n h
    made_table {ys} r = filled_all (record { long = r.long; done = λ j u. made_from ys n 0 (omega arith) f refl r.each j (omega arith) u })
