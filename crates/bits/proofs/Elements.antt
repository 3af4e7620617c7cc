-- Lists given by index, of elements of any kind; `z` is what stands past the end.
use mathlib.Core.Path.{◌≡◌, refl, sym, ap, ◌∙◌}
use mathlib.Core.List.{List}
use Prim.Native.Nat.{ℕ, zero, suc, ◌+◌, ◌≤◌, ◌<◌}
use native.Mathlib.Nat.{zero-lt-suc}
use native.Mathlib.Decide.{ℕ_discrete}
use native.Mathlib.Omega.{arith}
use lib.ListN.{length, get_or, set, length-set}
use lib.Seq.{ext_get_or, get_or-set_same, get_or-set_other}
use Rattle.bits.specs.Table.{tab}

pub tab_long : {A : Type 0} (k : ℕ) (f : ℕ → A) → length (tab k f) ≡ k
tab_long zero f = refl
tab_long (suc k) f = ap suc (tab_long k (λ i. f (suc i)))

pub tab_at : {A : Type 0} (z : A) (k : ℕ) (f : ℕ → A) (i : ℕ) → i < k → get_or (tab k f) i z ≡ f i
tab_at z (suc k) f zero h = refl
tab_at z (suc k) f (suc i) h = tab_at z k (λ j. f (suc j)) i (omega arith)
tab_at z zero f i h = absurd (omega arith)

pub tab_same_at : {A : Type 0} (k : ℕ) (f g : ℕ → A) → ((i : ℕ) → i < k → f i ≡ g i) → tab k f ≡ tab k g
tab_same_at zero f g e = refl
tab_same_at (suc k) f g e = cc (e 0 (zero-lt-suc k), tab_same_at k (λ i. f (suc i)) (λ i. g (suc i)) (λ i h. e (suc i) (omega arith)))

-- a list of k elements is given by them
pub tab_of : {A : Type 0} (z : A) (k : ℕ) (l : List A) → length l ≡ k → tab k (λ i. get_or l i z) ≡ l
tab_of z k l e =
    ext_get_or z (tab k (λ i. get_or l i z)) l (tab_long k (λ i. get_or l i z) ∙ sym e)
    (λ i h. tab_at z k (λ i. get_or l i z) i (rw tab_long at h))

-- a list of k elements of which the first i are f's and the others as they were: what a loop has done that goes over it from the front
pub record Replaced {A : Type 0} (z : A) (k : ℕ) (f : ℕ → A) (l₀ : List A) (i : ℕ) (l : List A) : Type 0 where
  pub long : length l ≡ k
  pub done : (j : ℕ) → j < i → get_or l j z ≡ f j
  pub rest : (j : ℕ) → i ≤ j → get_or l j z ≡ get_or l₀ j z

pub replaced_none : {A : Type 0} (z : A) (k : ℕ) (f : ℕ → A) (l : List A) → length l ≡ k → Replaced z k f l 0 l
replaced_none z k f l e = record { long = e; done = λ j h. absurd (omega arith); rest = λ j h. refl }

pub replaced_more : {A : Type 0} (z : A) {k : ℕ} {f : ℕ → A} {l₀ : List A} {i : ℕ} {l : List A}
    → Replaced z k f l₀ i l → i < k → (v : A) → v ≡ f i → Replaced z k f l₀ (i + 1) (set l i v)
replaced_more {A} z {k} {f} {l₀} {i} {l} h hi v e =
    record { long = length-set l i v ∙ h.long; done = done; rest = λ j hj. get_or-set_other l i j v z (omega arith) ∙ h.rest j (omega arith) }
  where
    done : (j : ℕ) → j < i + 1 → get_or (set l i v) j z ≡ f j
    done j hj = at (ℕ_discrete j i)
      where
        at : Dec (j ≡ i) → get_or (set l i v) j z ≡ f j
        at (yes q) = rw q (get_or-set_same l i v z (rw h.long hi) ∙ e)
        at (no d) = get_or-set_other l i j v z d ∙ h.done j (omega arith)

pub replaced_all : {A : Type 0} (z : A) {k : ℕ} {f : ℕ → A} {l₀ : List A} {l : List A} → Replaced z k f l₀ k l → l ≡ tab k f
replaced_all z {k} {f} {l₀} {l} h =
    ext_get_or z l (tab k f) (h.long ∙ sym (tab_long k f))
    (λ i hi. h.done i (rw h.long at hi) ∙ sym (tab_at z k f i (rw h.long at hi)))
