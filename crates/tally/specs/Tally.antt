-- Trigrams that were counted: one node for each different one, on the chain of its hash; node 0 is none. No entry point's contract speaks of it.
use Rattle.std.specs.Prelude.{◌≡◌, cond, List, ℕ, zero, suc, ◌*◌, ◌/◌, ◌%◌, ◌≤◌, ◌<◌, eqb, get_or}

-- which chain a trigram is on
unfoldable pub chain : ℕ → ℕ
chain v = v * 2654435761 / 2097152 % 2048

-- the node of the trigram v on the chain from node k on, where r gives the nodes' trigrams and `left` steps are left; 0 where there is none
unfoldable pub look : List ℕ → (ℕ → ℕ) → ℕ → ℕ → ℕ → ℕ
look next r v zero k = 0
look next r v (suc left) zero = 0
look next r v (suc left) (suc k) = cond (eqb (r (suc k)) v) (suc k) (look next r v left (get_or next (suc k) 0))

-- a chain goes to smaller nodes only
pub record Down (next : List ℕ) : Type 0 where
  pub below : (k : ℕ) → 0 < k → get_or next k 0 < k

-- the node of v, and how often v is counted there
abbrev pub node_of : (ℕ → ℕ) → List ℕ → List ℕ → ℕ → ℕ
node_of r head next v = look next r v (get_or head (chain v) 0) (get_or head (chain v) 0)

abbrev pub valued : (ℕ → ℕ) → List ℕ → List ℕ → List ℕ → ℕ → ℕ
valued r head next counts v = get_or counts (node_of r head next v) 0

-- n nodes, whose trigrams r gives, count each v as often as m says
pub record Tally (r : ℕ → ℕ) (head next counts : List ℕ) (n : ℕ) (m : ℕ → ℕ) : Type 0 where
  pub heads : (h : ℕ) → get_or head h 0 ≤ n
  pub down : Down next
  pub none : get_or counts 0 0 ≡ 0
  pub held : (v : ℕ) → valued r head next counts v ≡ m v
