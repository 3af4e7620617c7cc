-- Laws of a tally: how it begins, a count that is changed, a node that is added.
use mathlib.Core.Path.{◌≡◌, sym, ap, ◌∙◌}
use mathlib.Core.List.{List}
use Prim.Native.Nat.{ℕ, suc, ◌≤◌, ◌<◌}
use native.Mathlib.Decide.{ℕ_discrete}
use native.Mathlib.Omega.{arith}
use borrow.Author.Tests.{eq-eqb, ne_eqb}
use lib.ListN.{length, get_or, set}
use lib.Seq.{get_or-set_same, get_or-set_other}
use Rattle.trigrams.specs.Taken.{put}
use Rattle.tally.specs.Tally.{chain, look, Down, node_of, valued, Tally}
use Rattle.tally.proofs.Chains.{look_here, look_on, found_right, found_le, look_set}

-- where every chain is empty, nothing is counted
pub tally_empty : (r : ℕ → ℕ) (head next counts : List ℕ) → ((h : ℕ) → get_or head h 0 ≡ 0) → Down next → get_or counts 0 0 ≡ 0
    → Tally r head next counts 0 (λ v. 0)
unfolding look
tally_empty r head next counts e d z = record {
  heads = λ h. omega (arith, e h);
  down = d;
  none = z;
  held = λ v. ap (λ (k : ℕ). get_or counts (look next r v k k) 0) (e (chain v)) ∙ z;
}

module _ {r : ℕ → ℕ} {head next counts : List ℕ} {n : ℕ} {m : ℕ → ℕ} (t : Tally r head next counts n m) where
  -- a node that is found is one of the n
  pub node_le : (v : ℕ) → node_of r head next v ≤ n
  node_le v = omega (arith, found_le t.down r v (get_or head (chain v) 0) (get_or head (chain v) 0), t.heads (chain v))

  -- v is counted x times, at its node
  pub tally_put : (v x : ℕ) → 0 < node_of r head next v → node_of r head next v < length counts
      → Tally r head next (set counts (node_of r head next v) x) n (put m v x)
  tally_put v x p h = record {
    heads = t.heads;
    down = t.down;
    none = get_or-set_other counts k 0 x 0 (λ q. omega (arith, q)) ∙ t.none;
    held = held;
  }
    where
      k : ℕ
      k = node_of r head next v

      held : (w : ℕ) → get_or (set counts k x) (node_of r head next w) 0 ≡ put m v x w
      held w = at (ℕ_discrete w v)
        where
          at : Dec (w ≡ v) → get_or (set counts k x) (node_of r head next w) 0 ≡ put m v x w
          at (yes e) =
              rw (eq-eqb w v e)
              (ap (λ (u : ℕ). get_or (set counts k x) (node_of r head next u) 0) e ∙ get_or-set_same counts k x 0 h)
          at (no d) =
              rw (ne_eqb w v d)
              (get_or-set_other counts k (node_of r head next w) x 0 (λ q. d (sym (found-w q) ∙ found_right next r v _ _ p)) ∙ t.held w)
            where
              found-w : node_of r head next w ≡ k → r k ≡ w
              found-w q = ap r (sym q) ∙ found_right next r w _ _ (rw q p)

  -- a node more, for v, which is counted once
  module _ (v : ℕ) (e : r (suc n) ≡ v) (wide : chain v < length head) (room : suc n < length next) (long : suc n < length counts) where
    heads-push : (h : ℕ) → get_or (set head (chain v) (suc n)) h 0 ≤ suc n
    heads-push h = at (ℕ_discrete h (chain v))
      where
        at : Dec (h ≡ chain v) → get_or (set head (chain v) (suc n)) h 0 ≤ suc n
        at (yes q) = rw q (rw (get_or-set_same head (chain v) (suc n) 0 wide) (omega arith))
        at (no d) = rw (get_or-set_other head (chain v) h (suc n) 0 d) (omega (arith, t.heads h))

    down-push : Down (set next (suc n) (get_or head (chain v) 0))
    down-push = record { below = below }
      where
        below : (k : ℕ) → 0 < k → get_or (set next (suc n) (get_or head (chain v) 0)) k 0 < k
        below k p = at (ℕ_discrete k (suc n))
          where
            at : Dec (k ≡ suc n) → get_or (set next (suc n) (get_or head (chain v) 0)) k 0 < k
            at (yes q) = rw q (rw (get_or-set_same next (suc n) (get_or head (chain v) 0) 0 room) (omega (arith, t.heads (chain v))))
            at (no d) = rw (get_or-set_other next (suc n) k (get_or head (chain v) 0) 0 d) (t.down.below k p)

    -- the nodes of the others stay
    node-push : (w : ℕ) → (w ≡ v → ⊥)
        → node_of r (set head (chain v) (suc n)) (set next (suc n) (get_or head (chain v) 0)) w ≡ node_of r head next w
    node-push w d = at (ℕ_discrete (chain w) (chain v))
      where
        next' : List ℕ
        next' = set next (suc n) (get_or head (chain v) 0)

        old : (k : ℕ) → k ≤ n → look next' r w k k ≡ look next r w k k
        old k h = look_set t.down (suc n) (get_or head (chain v) 0) r w k k (omega arith)

        at : Dec (chain w ≡ chain v) → node_of r (set head (chain v) (suc n)) next' w ≡ node_of r head next w
        at (no c) =
            ap (λ (k : ℕ). look next' r w k k) (get_or-set_other head (chain v) (chain w) (suc n) 0 c)
            ∙ old (get_or head (chain w) 0) (t.heads (chain w))
        at (yes c) =
            ap (λ (k : ℕ). look next' r w k k)
            (ap (λ (h : ℕ). get_or (set head (chain v) (suc n)) h 0) c ∙ get_or-set_same head (chain v) (suc n) 0 wide)
            ∙ look_on down-push r w (suc n) (omega arith) (λ q. d (sym q ∙ e))
            ∙ ap (λ (k : ℕ). look next' r w k k) (get_or-set_same next (suc n) (get_or head (chain v) 0) 0 room)
            ∙ old (get_or head (chain v) 0) (t.heads (chain v))
            ∙ ap (λ (h : ℕ). look next r w (get_or head h 0) (get_or head h 0)) (sym c)

    held-push : (w : ℕ)
        → valued r (set head (chain v) (suc n)) (set next (suc n) (get_or head (chain v) 0)) (set counts (suc n) 1) w ≡ put m v 1 w
    held-push w = at (ℕ_discrete w v)
      where
        head' : List ℕ
        head' = set head (chain v) (suc n)

        next' : List ℕ
        next' = set next (suc n) (get_or head (chain v) 0)

        at : Dec (w ≡ v) → valued r head' next' (set counts (suc n) 1) w ≡ put m v 1 w
        at (yes q) =
            rw (eq-eqb w v q)
            (ap (λ (u : ℕ). valued r head' next' (set counts (suc n) 1) u) q
            ∙ ap (λ (k : ℕ). get_or (set counts (suc n) 1) (look next' r v k k) 0) (get_or-set_same head (chain v) (suc n) 0 wide)
            ∙ ap (λ (k : ℕ). get_or (set counts (suc n) 1) k 0) (look_here next' r v (suc n) e)
            ∙ get_or-set_same counts (suc n) 1 0 long)
        at (no d) =
            rw (ne_eqb w v d)
            (ap (λ (k : ℕ). get_or (set counts (suc n) 1) k 0) (node-push w d)
            ∙ get_or-set_other counts (suc n) (node_of r head next w) 1 0 (λ q. omega (arith, q, node_le w))
            ∙ t.held w)

    pub tally_push : Tally r (set head (chain v) (suc n)) (set next (suc n) (get_or head (chain v) 0)) (set counts (suc n) 1) (suc n) (put m v 1)
    tally_push = record {
      heads = heads-push;
      down = down-push;
      none = get_or-set_other counts (suc n) 0 1 0 (λ q. omega (arith, q)) ∙ t.none;
      held = held-push;
    }
