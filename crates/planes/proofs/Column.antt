-- Columns of the planes: what stands in the planes after one is put, and the bits of a state in them.
use mathlib.Core.Path.{◌≡◌, ap, ◌∙◌}
use mathlib.Core.List.{List, []}
use Prim.Native.Nat.{ℕ, ◌<◌}
use lib.ListN.{length, get_or, set, length-set}
use lib.Seq.{get_or-set_same, get_or-set_other}
use Rattle.bits.specs.Bit.{bit}
use Rattle.bits.proofs.Bits.{bit_lt, bit_gather}
use Rattle.bits.proofs.Elements.{tab_long, tab_at}
use Rattle.planes.specs.Planes.{row_at, lane, Shaped, with_column}

module _ (x : List (List ℕ)) (j : ℕ) (y : List ℕ) where
  put-row : (i : ℕ) → i < 8 → get_or (with_column x j y) i [] ≡ set (get_or x i []) j (get_or y i 0)
  unfolding with_column
  put-row i h = tab_at [] 8 (λ i. set (get_or x i []) j (get_or y i 0)) i h

  pub put_shaped : Shaped x → Shaped (with_column x j y)
  unfolding with_column
  put_shaped s =
      record {
        long = tab_long 8 (λ i. set (get_or x i []) j (get_or y i 0));
        wide = λ i h. ap length (put-row i h) ∙ length-set (get_or x i []) j (get_or y i 0) ∙ s.wide i h;
      }

  -- the planes of the column are y's, and the others as they were
  pub put_same : Shaped x → (i : ℕ) → i < 8 → j < 16 → get_or (get_or (with_column x j y) i []) j 0 ≡ get_or y i 0
  put_same s i h hj =
      ap (λ (r : List ℕ). get_or r j 0) (put-row i h) ∙ get_or-set_same (get_or x i []) j (get_or y i 0) 0 (rw (s.wide i h) hj)

  pub put_other : (i : ℕ) → i < 8 → (k : ℕ) → (k ≡ j → ⊥) → get_or (get_or (with_column x j y) i []) k 0 ≡ get_or (get_or x i []) k 0
  put_other i h k d = ap (λ (r : List ℕ). get_or r k 0) (put-row i h) ∙ get_or-set_other (get_or x i []) j k (get_or y i 0) 0 d

-- bit k of row i of state b is bit b of plane k of that row
pub lane_bit : (x : List (List ℕ)) (b i : ℕ) → i < 8 → (k : ℕ) → k < 16 → bit (get_or (lane x b) i 0) k ≡ bit (get_or (get_or x i []) k 0) b
unfolding lane row_at
lane_bit x b i hi k hk =
    ap (λ (n : ℕ). bit n k) (tab_at 0 8 (λ i. row_at (get_or x i []) b) i hi)
    ∙ bit_gather 16 (λ k. bit (get_or (get_or x i []) k 0) b) (λ k. bit_lt (get_or (get_or x i []) k 0) b) k hk
