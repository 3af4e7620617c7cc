-- What the code that counts asks for and hands on; no entry point's contract speaks of it.
use Rattle.std.specs.Prelude.{◌≡◌, List, [], ◌∷◌, ℕ, ◌+◌, ◌≤◌, ◌<◌, length, get_or, set}
use Rattle.trigrams.specs.Trigrams.{count}
use Rattle.trigrams.specs.Taken.{taken}
use Rattle.tally.specs.Tally.{chain, node_of}
use Rattle.tally.specs.declared.Nodes.{Nodes}
use Rattle.tally.specs.declared.Tally.{Tally}

-- the node of v, or 0
abbrev pub node_in : {N : ℕ} → Nodes N → ℕ → ℕ
node_in a v = node_of (λ k. get_or a.keys k 0) a.head a.next v

-- how often v is counted, where the counts stand beside the nodes
abbrev pub counted : {N : ℕ} → Nodes N → List ℕ → ℕ → ℕ
counted a counts v = get_or counts (node_in a v) 0

-- a tally counts the numbers of the list x, each as often as it stands there
pub record Counts {N : ℕ} (x : List ℕ) (t : Tally N) : Type 0 where
  pub each : (v : ℕ) → counted t.nodes t.counts v ≡ count v x

-- it counts nothing, and all its nodes are free
pub record Empty {N : ℕ} (t : Tally N) : Type 0 where
  pub counts : Counts [] t
  pub used : t.nodes.used ≡ 1

-- what a search leaves: all but the number at node 0
pub record Searched {N : ℕ} (a b : Nodes N) : Type 0 where
  pub heads : b.head ≡ a.head
  pub chains : b.next ≡ a.next
  pub keys : (k : ℕ) → 0 < k → get_or b.keys k 0 ≡ get_or a.keys k 0
  pub long : length b.keys ≡ length a.keys
  pub used : b.used ≡ a.used

-- a node more, for v, at the front of its chain
pub record Pushed {N : ℕ} (a b : Nodes N) (v : ℕ) : Type 0 where
  pub heads : b.head ≡ set a.head (chain v) a.used
  pub chains : b.next ≡ set a.next a.used (get_or a.head (chain v) 0)
  pub keys : b.keys ≡ set a.keys a.used v
  pub used : b.used ≡ a.used + 1

-- d of one v are taken away
pub record Took {N : ℕ} (a b : Nodes N) (old counts : List ℕ) (v d : ℕ) : Type 0 where
  pub left : Searched a b
  pub none : get_or counts 0 0 ≡ 0
  pub is : (y : List ℕ) → taken (counted a old) (v ∷ y) ≡ d + taken (counted b counts) y
  pub small : d ≤ 1
