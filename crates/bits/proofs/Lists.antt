-- Laws of lists given by index.
use mathlib.Core.Path.{◌≡◌, refl, sym, ap, ◌∙◌}
use mathlib.Core.List.{List, ◌∷◌}
use Prim.Native.Nat.{ℕ, zero, suc, ◌+◌, ◌-◌, ◌≤◌, ◌<◌}
use native.Mathlib.Nat.{zero-lt-suc}
use native.Mathlib.Decide.{ℕ_discrete}
use native.Mathlib.Omega.{arith}
use lib.ListN.{length, get_or, set, take, drop, replicate, length-set, length-drop}
use lib.Seq.{ext_get_or, get_or-set_same, get_or-set_other, get_or-take, get_or-drop, length-take-le, take_all}
use Rattle.bits.specs.Table.{tab}

pub length_tab : (k : ℕ) (f : ℕ → ℕ) → length (tab k f) ≡ k
length_tab zero f = refl
length_tab (suc k) f = ap suc (length_tab k (λ i. f (suc i)))

pub get_or_tab : (k : ℕ) (f : ℕ → ℕ) (i : ℕ) → i < k → get_or (tab k f) i 0 ≡ f i
get_or_tab (suc k) f zero h = refl
get_or_tab (suc k) f (suc i) h = get_or_tab k (λ j. f (suc j)) i (omega arith)
get_or_tab zero f i h = absurd (omega arith)

-- past the end stands 0
pub get_or_tab_out : (k : ℕ) (f : ℕ → ℕ) (i : ℕ) → k ≤ i → get_or (tab k f) i 0 ≡ 0
get_or_tab_out zero f i h = refl
get_or_tab_out (suc k) f (suc i) h = get_or_tab_out k (λ j. f (suc j)) i (omega arith)
get_or_tab_out (suc k) f zero h = absurd (omega arith)

-- one element again and again
pub tab_same : (n v : ℕ) → tab n (λ i. v) ≡ replicate n v
tab_same zero v = refl
tab_same (suc n) v = ap (λ (l : List ℕ). v ∷ l) (tab_same n v)

pub get_or_zeros : (n i : ℕ) → ◌≡◌ {A = ℕ} (get_or (replicate n 0) i 0) 0
get_or_zeros zero i = refl
get_or_zeros (suc n) zero = refl
get_or_zeros (suc n) (suc i) = get_or_zeros n i

pub tab_ext : (k : ℕ) (f g : ℕ → ℕ) → ((i : ℕ) → i < k → f i ≡ g i) → tab k f ≡ tab k g
tab_ext zero f g e = refl
tab_ext (suc k) f g e = cc (e 0 (zero-lt-suc k), tab_ext k (λ i. f (suc i)) (λ i. g (suc i)) (λ i h. e (suc i) (omega arith)))

-- a list of k elements is given by them
pub tab_get_or : (k : ℕ) (l : List ℕ) → length l ≡ k → tab k (λ i. get_or l i 0) ≡ l
tab_get_or k l e =
    ext_get_or 0 (tab k (λ i. get_or l i 0)) l (length_tab k (λ i. get_or l i 0) ∙ sym e)
    (λ i h. get_or_tab k (λ i. get_or l i 0) i (rw length_tab at h))

-- a list of k elements of which the first i are f's: what a loop that fills it from the front has done
pub record Filled (k : ℕ) (f : ℕ → ℕ) (i : ℕ) (l : List ℕ) : Type 0 where
  pub long : length l ≡ k
  pub done : (j : ℕ) → j < i → get_or l j 0 ≡ f j

pub filled_none : (k : ℕ) (f : ℕ → ℕ) (l : List ℕ) → length l ≡ k → Filled k f 0 l
filled_none k f l e = record { long = e; done = λ j h. absurd (omega arith) }

pub filled_more : {k : ℕ} {f : ℕ → ℕ} {i : ℕ} {l : List ℕ} → Filled k f i l → i < k → (v : ℕ) → v ≡ f i → Filled k f (i + 1) (set l i v)
filled_more {k} {f} {i} {l} h hi v e = record { long = length-set l i v ∙ h.long; done = done }
  where
    done : (j : ℕ) → j < i + 1 → get_or (set l i v) j 0 ≡ f j
    done j hj = at (ℕ_discrete j i)
      where
        at : Dec (j ≡ i) → get_or (set l i v) j 0 ≡ f j
        at (yes q) = rw q (get_or-set_same l i v 0 (rw h.long hi) ∙ e)
        at (no d) = get_or-set_other l i j v 0 d ∙ h.done j (omega arith)

pub filled_all : {k : ℕ} {f : ℕ → ℕ} {l : List ℕ} → Filled k f k l → l ≡ tab k f
filled_all {k} {f} {l} h =
    ext_get_or 0 l (tab k f) (h.long ∙ sym (length_tab k f))
    (λ i hi. h.done i (rw h.long at hi) ∙ sym (get_or_tab k f i (rw h.long at hi)))

-- the part of n elements from a place on
pub part_at : (n : ℕ) (l : List ℕ) (at : ℕ) → at + n ≤ length l → tab n (λ i. get_or l (at + i) 0) ≡ take n (drop at l)
part_at n l at h =
    let long : length (take n (drop at l)) ≡ n = length-take-le n (drop at l) (rw length-drop (omega arith)) in
    sym
    (filled_all {k = n} {f = λ i. get_or l (at + i) 0} {l = take n (drop at l)}
    (record { long = long; done = λ i hi. get_or-take n (drop at l) i 0 hi ∙ get_or-drop at l i 0 }))

-- the part of a string from a place on
pub part_rest : (at : ℕ) (s : List ℕ) → take (length s - at) (drop at s) ≡ drop at s
part_rest at s = take_all (length s - at) (drop at s) (rw length-drop (omega arith))
