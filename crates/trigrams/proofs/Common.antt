-- What two lists have in common.
use mathlib.Core.Path.{◌≡◌, refl, sym, ap, ap₂, ◌∙◌}
use mathlib.Core.Bool.{Bool, true, false, cond}
use mathlib.Core.List.{List, [], ◌∷◌, ◌++◌}
use Prim.Native.Nat.{ℕ, suc, ◌+◌, ◌-◌, ◌≤◌, min}
use native.Mathlib.Nat.{min-zero}
use native.Mathlib.Decide.{ℕ_discrete}
use native.Mathlib.Omega.{arith}
use borrow.Author.Tests.{eq-eqb, ne_eqb}
use lib.Dec.{eqb, eqb-suc-zero}
use lib.ListN.{length}
use Rattle.trigrams.specs.Trigrams.{count, less, common, shared}
use Rattle.trigrams.specs.Taken.{put}

-- an element counts once at its own, and not at another
pub count_same : (v : ℕ) (x : List ℕ) → count v (v ∷ x) ≡ suc (count v x)
unfolding count
count_same v x = rw (eq-eqb v v refl)

pub count_other : (v u : ℕ) (x : List ℕ) → (u ≡ v → ⊥) → count v (u ∷ x) ≡ count v x
unfolding count
count_other v u x d = rw (ne_eqb u v d)

pub less_same : (v : ℕ) (x : List ℕ) → less v (v ∷ x) ≡ x
unfolding less
less_same v x = rw (eq-eqb v v refl)

pub less_other : (v u : ℕ) (x : List ℕ) → (u ≡ v → ⊥) → less v (u ∷ x) ≡ u ∷ less v x
unfolding less
less_other v u x d = rw (ne_eqb u v d)

-- a count with another number at v
pub put_same : (m : ℕ → ℕ) (v n : ℕ) → put m v n v ≡ n
put_same m v n = rw (eq-eqb v v refl)

pub put_other : (m : ℕ → ℕ) (v n w : ℕ) → (w ≡ v → ⊥) → put m v n w ≡ m w
put_other m v n w d = rw (ne_eqb w v d)

pub count_le : (v : ℕ) (x : List ℕ) → count v x ≤ length x
unfolding count
count_le v [] = omega arith
count_le v (u ∷ x) = at (eqb u v) (count_le v x)
  where
    at : (b : Bool) → count v x ≤ length x → cond b (suc (count v x)) (count v x) ≤ suc (length x)
    at true h = omega arith
    at false h = omega arith

-- one more at the end
pub count_snoc : (v : ℕ) (x : List ℕ) (u : ℕ) → count v (x ++ u ∷ []) ≡ cond (eqb u v) (suc (count v x)) (count v x)
unfolding count
count_snoc v [] u = refl
count_snoc v (w ∷ x) u = ap (λ n. cond (eqb w v) (suc n) n) (count_snoc v x u) ∙ swap (eqb w v) (eqb u v) (count v x)
  where
    swap : (a b : Bool) (n : ℕ) → cond a (suc (cond b (suc n) n)) (cond b (suc n) n) ≡ cond b (suc (cond a (suc n) n)) (cond a (suc n) n)
    swap true true n = refl
    swap true false n = refl
    swap false true n = refl
    swap false false n = refl

-- the same, as a count in which u is counted once more
pub count_more : (x : List ℕ) (u v : ℕ) → count v (x ++ u ∷ []) ≡ put (λ w. count w x) u (count u x + 1) v
count_more x u v = count_snoc v x u ∙ at (ℕ_discrete v u)
  where
    at : Dec (v ≡ u) → cond (eqb u v) (suc (count v x)) (count v x) ≡ put (λ w. count w x) u (count u x + 1) v
    at (yes e) = rw (e, eq-eqb u u refl) (omega arith)
    at (no d) = rw (ne_eqb u v (λ e. d (sym e)), ne_eqb v u d)

-- without the first v: v is counted once less
pub count_less : (v : ℕ) (x : List ℕ) (w : ℕ) → count w (less v x) ≡ put (λ z. count z x) v (count v x - 1) w
unfolding count less
count_less v [] w = none (eqb w v)
  where
    none : (b : Bool) → ◌≡◌ {A = ℕ} 0 (cond b 0 0)
    none true = refl
    none false = refl
count_less v (u ∷ x) w = at (ℕ_discrete u v) (ℕ_discrete w v) (count_less v x w)
  where
    at : Dec (u ≡ v) → Dec (w ≡ v) → count w (less v x) ≡ put (λ z. count z x) v (count v x - 1) w
        → count w (less v (u ∷ x)) ≡ put (λ z. count z (u ∷ x)) v (count v (u ∷ x) - 1) w
    at (yes e) (yes f) r = rw (e, f, eq-eqb v v refl) (omega arith)
    at (yes e) (no f) r = rw (e, eq-eqb v v refl, ne_eqb w v f, ne_eqb v w (λ q. f (sym q)))
    at (no d) (yes f) r = rw (f, ne_eqb u v d, eq-eqb v v refl, ne_eqb u v d) (rw (f, eq-eqb v v refl) at r)
    at (no d) (no f) r = rw (ne_eqb u v d, ne_eqb w v f) (ap (λ n. cond (eqb u w) (suc n) n) (rw (ne_eqb w v f) at r))

pub count_less_same : (v : ℕ) (x : List ℕ) → count v (less v x) ≡ count v x - 1
count_less_same v x = count_less v x v ∙ put_same (λ z. count z x) v (count v x - 1)

pub count_less_other : (v : ℕ) (x : List ℕ) (w : ℕ) → (w ≡ v → ⊥) → count w (less v x) ≡ count w x
count_less_other v x w d = count_less v x w ∙ put_other (λ z. count z x) v (count v x - 1) w d

-- each element stands among those in common as often as in both lists
pub common_count : (v : ℕ) (x y : List ℕ) → count v (common x y) ≡ min (count v x) (count v y)
unfolding count common
common_count v x [] = sym (min-zero (count v x))
common_count v x (u ∷ y) = at (ℕ_discrete (count u x) 0) (ℕ_discrete v u) (common_count v x y) (common_count v (less u x) y)
  where
    at : Dec (count u x ≡ 0) → Dec (v ≡ u) → count v (common x y) ≡ min (count v x) (count v y)
        → count v (common (less u x) y) ≡ min (count v (less u x)) (count v y) → count v (common x (u ∷ y)) ≡ min (count v x) (count v (u ∷ y))
    at (yes z) (yes e) r q = rw (e, z, eq-eqb u u refl) (omega (arith, rw (e, z) at r))
    at (yes z) (no d) r q = rw (z, ne_eqb u v (λ e. d (sym e))) r
    at (no z) (yes e) r q = rw (e, ne_eqb (count u x) 0 z, eq-eqb u u refl, rw e at q, count_less_same u x) (omega (arith, ap (λ w. count w y) e))
    at (no z) (no d) r q = rw (ne_eqb (count u x) 0 z, ne_eqb u v (λ e. d (sym e))) (q ∙ ap (λ n. min n (count v y)) (count_less_other u x v d))

-- how many are shared with a list of one more, on the right
pub shared_step : (x : List ℕ) (v : ℕ) (y : List ℕ)
    → shared x (v ∷ y) ≡ cond (eqb (count v x) 0) (shared x y) (suc (shared (less v x) y))
unfolding shared common
shared_step x v y = long (eqb (count v x) 0) (common x y) (common (less v x) y)
  where
    long : (b : Bool) (p q : List ℕ) → length (cond b p (v ∷ q)) ≡ cond b (length p) (suc (length q))
    long true p q = refl
    long false p q = refl

pub shared_nil : (x : List ℕ) → shared x [] ≡ 0
unfolding shared common
shared_nil x = refl

-- and on the left
pub shared_cons : (u : ℕ) (x y : List ℕ) → shared (u ∷ x) y ≡ cond (eqb (count u y) 0) (shared x y) (suc (shared x (less u y)))
unfolding count less
shared_cons u x [] = shared_nil (u ∷ x) ∙ sym (shared_nil x)
shared_cons u x (v ∷ y) = at (ℕ_discrete u v) (shared_cons u x y) (shared_cons u (less v x) y)
  where
    swap : (a b : Bool) (k l m n : ℕ)
        → cond a (cond b k (suc l)) (suc (cond b m (suc n))) ≡ cond b (cond a k (suc m)) (suc (cond a l (suc n)))
    swap true true k l m n = refl
    swap true false k l m n = refl
    swap false true k l m n = refl
    swap false false k l m n = refl

    at : Dec (u ≡ v) → shared (u ∷ x) y ≡ cond (eqb (count u y) 0) (shared x y) (suc (shared x (less u y)))
        → shared (u ∷ less v x) y ≡ cond (eqb (count u y) 0) (shared (less v x) y) (suc (shared (less v x) (less u y)))
        → shared (u ∷ x) (v ∷ y) ≡ cond (eqb (count u (v ∷ y)) 0) (shared x (v ∷ y)) (suc (shared x (less u (v ∷ y))))
    at (yes e) r q = rw (shared_step, e, eq-eqb v v refl, eqb-suc-zero (count v x), eqb-suc-zero (count u y))
    at (no d) r q =
        rw (shared_step (u ∷ x) v y, ne_eqb u v d, ne_eqb v u (λ e. d (sym e)), r, q, shared_step x v y, shared_step x v (less u y))
        (swap (eqb (count v x) 0) (eqb (count u y) 0) (shared x y) (shared x (less u y)) (shared (less v x) y) (shared (less v x) (less u y)))

pub shared_none : (y : List ℕ) → shared [] y ≡ 0
unfolding count
shared_none [] = shared_nil []
shared_none (v ∷ y) = shared_step [] v y ∙ shared_none y

-- it is the same both ways round
pub shared_sym : (x y : List ℕ) → shared x y ≡ shared y x
shared_sym [] y = shared_none y ∙ sym (shared_nil y)
shared_sym (u ∷ x) y =
    shared_cons u x y
    ∙ ap₂ (λ m n. cond (eqb (count u y) 0) m (suc n)) (shared_sym x y) (shared_sym x (less u y))
    ∙ sym (shared_step y u x)

-- at most as many as each list has
pub shared_le : (x y : List ℕ) → shared x y ≤ length y
shared_le x [] = rw (shared_nil x) (omega arith)
shared_le x (v ∷ y) = rw (shared_step x v y) (at (eqb (count v x) 0) (shared_le x y) (shared_le (less v x) y))
  where
    at : (b : Bool) → shared x y ≤ length y → shared (less v x) y ≤ length y → cond b (shared x y) (suc (shared (less v x) y)) ≤ suc (length y)
    at true h k = omega arith
    at false h k = omega arith

pub shared_le_left : (x y : List ℕ) → shared x y ≤ length x
shared_le_left x y = rw (shared_sym x y) (shared_le y x)

pub shared_self : (x : List ℕ) → shared x x ≡ length x
shared_self [] = shared_nil []
shared_self (u ∷ x) = rw (shared_step (u ∷ x) u x, count_same u x, eqb-suc-zero, less_same u x) (ap suc (shared_self x))
