-- What each function of the code does to a tally: a search, a trigram that is counted, one that is taken away.
use mathlib.Core.Path.{◌≡◌, refl, sym, ap, ◌∙◌, fun_ext}
use mathlib.Core.List.{List, [], ◌∷◌, ◌++◌}
use Prim.Native.Nat.{ℕ, suc, ◌+◌, ◌-◌, ◌≤◌, ◌<◌, min}
use native.Mathlib.Decide.{ℕ_discrete}
use native.Mathlib.Omega.{arith}
use lib.ListN.{length, get_or, set, take, drop, get_or-append}
use lib.Seq.{get_or-set_same, get_or-set_other, get_or-take, length-take-le, set-get_or}
use Rattle.trigrams.specs.Trigrams.{count, shared}
use Rattle.trigrams.specs.Taken.{put, taken}
use Rattle.trigrams.proofs.Common.{count_more}
use Rattle.trigrams.proofs.Taken.{shared_taken, taken_step, put_own}
use Rattle.tally.specs.Tally.{chain, look, Down, node_of, valued, Tally}
use Rattle.tally.specs.Search.{Found}
use Rattle.tally.specs.Code.{node_in, counted, Empty, Searched, Pushed, Took}
use Rattle.tally.specs.declared.Nodes.{Nodes}
use Rattle.tally.specs.declared.Tally.{Tally as Tallied}
use Rattle.tally.proofs.Chains.{look_keys}
use Rattle.tally.proofs.Tallies.{node_le, tally_put, tally_push}

-- what a search with the sentinel v finds is the node of v
pub found_node : {next : List ℕ} → Down next → (head keys : List ℕ) (v from j : ℕ) → from ≡ get_or head (chain v) 0
    → Found (set keys 0 v) next v from j → j ≡ node_of (λ k. get_or keys k 0) head next v
found_node {next} d head keys v from j e f =
    f.is
    ∙ look_keys d from (λ k. get_or (set keys 0 v) k 0) (λ k. get_or keys k 0) (λ k p h. get_or-set_other keys 0 k v 0 (λ q. omega (arith, q))) v
    from from (omega arith)
    ∙ ap (λ (i : ℕ). look next (λ k. get_or keys k 0) v i i) e

pub chain_small : (v : ℕ) → chain v < 2048
unfolding chain
chain_small v = omega arith

-- the same count in other words
pub tally_as : {r : ℕ → ℕ} {head next counts : List ℕ} {n : ℕ} {m q : ℕ → ℕ} → Tally r head next counts n m → ((v : ℕ) → m v ≡ q v)
    → Tally r head next counts n q
tally_as t e = record { heads = t.heads; down = t.down; none = t.none; held = λ v. t.held v ∙ e v }

-- taking one v away, where one is left
pub tally_take : {r : ℕ → ℕ} {head next counts : List ℕ} {n : ℕ} {m : ℕ → ℕ} → Tally r head next counts n m → (v x : ℕ)
    → node_of r head next v < length counts → x ≡ get_or counts (node_of r head next v) 0 - 1
    → Tally r head next (set counts (node_of r head next v) x) n (put m v (m v - 1))
tally_take {r} {head} {next} {counts} {n} {m} t v x h e = at (ℕ_discrete (node_of r head next v) 0)
  where
    at : Dec (node_of r head next v ≡ 0) → Tally r head next (set counts (node_of r head next v) x) n (put m v (m v - 1))
    at (yes z) =
        let none : get_or counts (node_of r head next v) 0 ≡ 0 = ap (λ (k : ℕ). get_or counts k 0) z ∙ t.none in
        let same : x ≡ get_or counts (node_of r head next v) 0 = omega arith in
        rw (same, set-get_or counts (node_of r head next v) 0, put_own m v (m v - 1) (omega (arith, t.held v))) t
    at (no d) =
        let same : m v - 1 ≡ x = omega (arith, t.held v) in
        rw same (tally_put t v x (omega arith) h)

module _ {N : ℕ} {a b : Nodes N} (s : Searched a b) where
  -- a search leaves each trigram its node
  pub node_left : (v : ℕ) → node_in b v ≡ node_in a v
  node_left v =
      let f = get_or a.head (chain v) 0 in
      (λ i. look (s.chains i) (λ k. get_or b.keys k 0) v (get_or (s.heads i) (chain v) 0) (get_or (s.heads i) (chain v) 0))
      ∙ look_keys a.down f (λ k. get_or b.keys k 0) (λ k. get_or a.keys k 0) (λ k p h. s.keys k p) v f f (omega arith)

  pub counted_left : (counts : List ℕ) (v : ℕ) → counted b counts v ≡ counted a counts v
  counted_left counts v = ap (λ (k : ℕ). get_or counts k 0) (node_left v)

  pub searched_then : {c : Nodes N} → Searched b c → Searched a c
  searched_then t = record {
    heads = t.heads ∙ s.heads;
    chains = t.chains ∙ s.chains;
    keys = λ k p. t.keys k p ∙ s.keys k p;
    long = t.long ∙ s.long;
    used = t.used ∙ s.used;
  }

pub searched_none : {N : ℕ} (a : Nodes N) → Searched a a
searched_none a = record { heads = refl; chains = refl; keys = λ k p. refl; long = refl; used = refl }

module _ {N : ℕ} (a : Nodes N) (counts : List ℕ) (none : get_or counts 0 0 ≡ 0) where
  -- the nodes and the counts are a tally
  pub tally_of : Tally (λ k. get_or a.keys k 0) a.head a.next counts (a.used - 1) (counted a counts)
  tally_of = record { heads = λ h. omega (arith, a.heads h); down = a.down; none = none; held = λ v. refl }

  pub node_used : (v : ℕ) → node_in a v < a.used
  node_used v = omega (arith, node_le tally_of v, a.some)

  -- one v is taken away, where one is left
  pub took : {b : Nodes N} → Searched a b → (v k d : ℕ) → k ≡ node_in a v → k < length counts → d ≡ min 1 (get_or counts k 0)
      → Took a b counts (set counts k (get_or counts k 0 - d)) v d
  took {b} s v k d e h q =
      record {
        left = s;
        none = t.none;
        is = λ y.
            taken_step m v y ∙ ap (λ (j : ℕ). j + taken (put m v (m v - 1)) y) one
            ∙ ap (λ (f : ℕ → ℕ). d + taken f y) (fun_ext (λ w. sym (counted_left s left w ∙ t.held w)));
        small = omega arith;
      }
    where
      m : ℕ → ℕ
      m = counted a counts

      left : List ℕ
      left = set counts k (get_or counts k 0 - d)

      one : min 1 (m v) ≡ d
      one = omega (arith, ap (λ (j : ℕ). get_or counts j 0) e)

      t : Tally (λ j. get_or a.keys j 0) a.head a.next left (a.used - 1) (put m v (m v - 1))
      t = rw e (tally_take tally_of v (get_or counts (node_in a v) 0 - d) (rw e at h) (omega (arith, one)))

  -- the counts of the nodes that are used, at the start of another list, are the same
  pub counted_copy : (other : List ℕ) → a.used ≤ length counts → (v : ℕ)
      → counted a (take a.used counts ++ drop a.used other) v ≡ counted a counts v
  counted_copy other h v =
      let low = node_used v in
      let long : length (take a.used counts) ≡ a.used = length-take-le a.used counts h in
      get_or-append (take a.used counts) (drop a.used other) 0 (node_in a v) (rw long low) ∙ get_or-take a.used counts (node_in a v) 0 low

-- what a count of the numbers of x shares with others
pub taken_shared : (m : ℕ → ℕ) (x y : List ℕ) → ((v : ℕ) → m v ≡ count v x) → taken m y ≡ shared x y
taken_shared m x y e = ap (λ (f : ℕ → ℕ). taken f y) (fun_ext e) ∙ sym (shared_taken x y)

module _ {head next counts : List ℕ} (keys x : List ℕ) {n : ℕ} (t : Tally (λ k. get_or keys k 0) head next counts n (λ w. count w x)) (v : ℕ) where
  -- one v more, at a node that is made for it
  pub counted_new : chain v < length head → suc n < length next → suc n < length counts → suc n < length keys
      → node_of (λ k. get_or keys k 0) head next v ≡ 0
      → (w : ℕ) → valued (λ k. get_or (set keys (suc n) v) k 0) (set head (chain v) (suc n)) (set next (suc n) (get_or head (chain v) 0))
      (set counts (suc n) 1) w ≡ count w (x ++ v ∷ [])
  counted_new wide room long keyed z w =
      (tally_push again v (get_or-set_same keys (suc n) v 0 keyed) wide room long).held w
      ∙ ap (λ (j : ℕ). put (λ u. count u x) v j w) first ∙ sym (count_more x v w)
    where
      same : (k : ℕ) → 0 < k → k ≤ n → get_or (set keys (suc n) v) k 0 ≡ get_or keys k 0
      same k p h = get_or-set_other keys (suc n) k v 0 (λ q. omega (arith, q))

      again : Tally (λ k. get_or (set keys (suc n) v) k 0) head next counts n (λ u. count u x)
      again = record {
        heads = t.heads;
        down = t.down;
        none = t.none;
        held = λ u.
            ap (λ (k : ℕ). get_or counts k 0)
            (look_keys t.down n (λ k. get_or (set keys (suc n) v) k 0) (λ k. get_or keys k 0) same u
            (get_or head (chain u) 0) (get_or head (chain u) 0) (t.heads (chain u)))
            ∙ t.held u;
      }

      first : 1 ≡ count v x + 1
      first = omega (arith, t.held v, ap (λ (j : ℕ). get_or counts j 0) z, t.none)

  -- or at the one that it has
  pub counted_more : (k : ℕ) → k ≡ node_of (λ j. get_or keys j 0) head next v → (k ≡ 0 → ⊥) → k < length counts
      → (w : ℕ) → valued (λ j. get_or keys j 0) head next (set counts k (get_or counts k 0 + 1)) w ≡ count w (x ++ v ∷ [])
  counted_more k e d h w =
      let j = node_of (λ i. get_or keys i 0) head next v in
      rw e
      ((tally_put t v (get_or counts j 0 + 1) (omega (arith, d, e)) (rw e at h)).held w
      ∙ ap (λ (i : ℕ). put (λ u. count u x) v (i + 1) w) (t.held v) ∙ sym (count_more x v w))

-- the same of the nodes that the code leaves
pub counted_pushed : {N : ℕ} {a b c : Nodes N} → Searched a b → (x counts : List ℕ) (v : ℕ) → Pushed b c v
    → ((w : ℕ) → counted a counts w ≡ count w x) → get_or counts 0 0 ≡ 0 → node_in a v ≡ 0
    → length a.head ≡ 2048 → length a.next ≡ N → length a.keys ≡ N → length counts ≡ N → a.used < N
    → (w : ℕ) → counted c (set counts b.used 1) w ≡ count w (x ++ v ∷ [])
counted_pushed {N} {a} {b} {c} s x counts v p e none z heads nexts keys long room w =
    let u : b.used ≡ suc (b.used - 1) = omega (arith, b.some) in
    let t = tally_as (tally_of b counts none) (λ w. counted_left s counts w ∙ e w) in
    (λ i. valued (λ k. get_or (p.keys i) k 0) (p.heads i) (p.chains i) (set counts b.used 1) w)
    ∙ (λ i. valued (λ k. get_or (set b.keys (u i) v) k 0) (set b.head (chain v) (u i)) (set b.next (u i) (get_or b.head (chain v) 0))
    (set counts (u i) 1) w)
    ∙ counted_new b.keys x t v (omega (arith, chain_small v, ap length s.heads)) (omega (arith, s.used, ap length s.chains))
    (omega (arith, s.used)) (omega (arith, s.used, s.long)) (node_left s v ∙ z) w

pub counted_found : {N : ℕ} {a b : Nodes N} → Searched a b → (x counts : List ℕ) (v k : ℕ)
    → ((w : ℕ) → counted a counts w ≡ count w x) → get_or counts 0 0 ≡ 0 → k ≡ node_in a v → (k ≡ 0 → ⊥) → k < length counts
    → (w : ℕ) → counted b (set counts k (get_or counts k 0 + 1)) w ≡ count w (x ++ v ∷ [])
counted_found {N} {a} {b} s x counts v k e none q d h w =
    counted_left s (set counts k (get_or counts k 0 + 1)) w ∙ counted_more a.keys x (tally_as (tally_of a counts none) e) v k q d h w

-- where every chain is empty, nothing is counted
pub empty_zeros : {N : ℕ} (t : Tallied N) → ((h : ℕ) → get_or t.nodes.head h 0 ≡ 0) → t.nodes.used ≡ 1 → Empty t
unfolding look count
empty_zeros t e u =
    let none : (v : ℕ) → counted t.nodes t.counts v ≡ 0 =
    λ v. ap (λ (k : ℕ). get_or t.counts (look t.nodes.next (λ j. get_or t.nodes.keys j 0) v k k) 0) (e (chain v)) ∙ t.none in
    record { counts = record { each = none }; used = u }
