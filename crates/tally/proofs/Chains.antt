-- Laws of the chains: what a search finds, and what a store changes.
use mathlib.Core.Path.{◌≡◌, refl, ap, ◌∙◌}
use mathlib.Core.Bool.{cond}
use mathlib.Core.List.{List}
use Prim.Native.Nat.{ℕ, zero, suc, ◌≤◌, ◌<◌}
use native.Mathlib.Decide.{ℕ_discrete}
use native.Mathlib.Omega.{arith}
use borrow.Author.Tests.{eq-eqb, ne_eqb}
use lib.Dec.{eqb}
use lib.ListN.{get_or, set}
use lib.Seq.{get_or-set_other}
use Rattle.tally.specs.Tally.{look, Down}

-- the steps that are left do not matter where they are enough
pub look_enough : {next : List ℕ} → Down next → (r : ℕ → ℕ) (v f g k : ℕ) → k ≤ f → k ≤ g → look next r v f k ≡ look next r v g k
unfolding look
look_enough d r v zero zero k a b = refl
look_enough d r v zero (suc g) zero a b = refl
look_enough d r v (suc f) zero zero a b = refl
look_enough d r v (suc f) (suc g) zero a b = refl
look_enough d r v zero (suc g) (suc k) a b = absurd (omega arith)
look_enough d r v (suc f) zero (suc k) a b = absurd (omega arith)
look_enough {next} d r v (suc f) (suc g) (suc k) a b =
    let l = d.below (suc k) (omega arith) in
    ap (cond (eqb (r (suc k)) v) (suc k)) (look_enough d r v f g (get_or next (suc k) 0) (omega arith) (omega arith))

-- a node whose trigram is v is found
pub look_here : (next : List ℕ) (r : ℕ → ℕ) (v k : ℕ) → r k ≡ v → look next r v k k ≡ k
unfolding look
look_here next r v zero e = refl
look_here next r v (suc k) e = rw (eq-eqb (r (suc k)) v e)

-- one with another is passed
pub look_on : {next : List ℕ} → Down next → (r : ℕ → ℕ) (v k : ℕ) → 0 < k → (r k ≡ v → ⊥)
    → look next r v k k ≡ look next r v (get_or next k 0) (get_or next k 0)
unfolding look
look_on d r v zero h e = absurd (omega arith)
look_on {next} d r v (suc k) h e =
    let l = d.below (suc k) (omega arith) in
    rw (ne_eqb (r (suc k)) v e) (look_enough d r v k (get_or next (suc k) 0) (get_or next (suc k) 0) (omega arith) (omega arith))

-- what is found is a node of v's
pub found_right : (next : List ℕ) (r : ℕ → ℕ) (v f k : ℕ) → 0 < look next r v f k → r (look next r v f k) ≡ v
unfolding look
found_right next r v zero k h = absurd (omega arith)
found_right next r v (suc f) zero h = absurd (omega arith)
found_right next r v (suc f) (suc k) h = at (ℕ_discrete (r (suc k)) v) (found_right next r v f (get_or next (suc k) 0)) h
  where
    at : Dec (r (suc k) ≡ v) → (0 < look next r v f (get_or next (suc k) 0) → r (look next r v f (get_or next (suc k) 0)) ≡ v)
        → 0 < cond (eqb (r (suc k)) v) (suc k) (look next r v f (get_or next (suc k) 0))
        → r (cond (eqb (r (suc k)) v) (suc k) (look next r v f (get_or next (suc k) 0))) ≡ v
    at (yes e) i h = rw (eq-eqb (r (suc k)) v e) e
    at (no d) i h = rw (ne_eqb (r (suc k)) v d) (i (rw (ne_eqb (r (suc k)) v d) at h))

pub found_le : {next : List ℕ} → Down next → (r : ℕ → ℕ) (v f k : ℕ) → look next r v f k ≤ k
unfolding look
found_le d r v zero k = omega arith
found_le d r v (suc f) zero = omega arith
found_le {next} d r v (suc f) (suc k) = at (ℕ_discrete (r (suc k)) v) (found_le d r v f (get_or next (suc k) 0))
  where
    at : Dec (r (suc k) ≡ v) → look next r v f (get_or next (suc k) 0) ≤ get_or next (suc k) 0
        → cond (eqb (r (suc k)) v) (suc k) (look next r v f (get_or next (suc k) 0)) ≤ suc k
    at (yes e) i = rw (eq-eqb (r (suc k)) v e) (omega arith)
    at (no n) i = rw (ne_eqb (r (suc k)) v n) (omega (arith, d.below (suc k) (omega arith)))

-- a search from a node before n does not see n
pub look_set : {next : List ℕ} → Down next → (n x : ℕ) (r : ℕ → ℕ) (v f k : ℕ) → k < n → look (set next n x) r v f k ≡ look next r v f k
unfolding look
look_set d n x r v zero k h = refl
look_set d n x r v (suc f) zero h = refl
look_set {next} d n x r v (suc f) (suc k) h =
    let l = d.below (suc k) (omega arith) in
    let e : get_or (set next n x) (suc k) 0 ≡ get_or next (suc k) 0 = get_or-set_other next n (suc k) x 0 (λ q. omega arith) in
    ap (cond (eqb (r (suc k)) v) (suc k))
    (ap (look (set next n x) r v f) e ∙ look_set d n x r v f (get_or next (suc k) 0) (omega arith))

-- a search goes by the trigrams of the nodes up to its first alone
pub look_keys : {next : List ℕ} → Down next → (n : ℕ) (r q : ℕ → ℕ) → ((k : ℕ) → 0 < k → k ≤ n → r k ≡ q k)
    → (v f k : ℕ) → k ≤ n → look next r v f k ≡ look next q v f k
unfolding look
look_keys d n r q e v zero k h = refl
look_keys d n r q e v (suc f) zero h = refl
look_keys {next} d n r q e v (suc f) (suc k) h =
    let l = d.below (suc k) (omega arith) in
    ap (λ (a : ℕ). cond (eqb a v) (suc k) (look next r v f (get_or next (suc k) 0))) (e (suc k) (omega arith) h)
    ∙ ap (cond (eqb (q (suc k)) v) (suc k)) (look_keys d n r q e v f (get_or next (suc k) 0) (omega arith))
