-- What a loop over the columns has done that sends each through an S-box, given by its table t.
use mathlib.Core.Path.{◌≡◌, refl, sym, ap, ◌∙◌}
use mathlib.Core.List.{List, []}
use Prim.Native.Nat.{ℕ, ◌+◌, ◌≤◌, ◌<◌}
use native.Mathlib.Decide.{ℕ_discrete}
use native.Mathlib.Omega.{arith}
use lib.ListN.{get_or}
use Rattle.bits.specs.Bit.{bit, gather}
use Rattle.bits.proofs.Bits.{gather_ext}
use Rattle.bits.proofs.Lists.{get_or_tab, tab_ext}
use Rattle.sbox.specs.Sbox.{column, layer, layer_at}
use Rattle.sbox.proofs.Inverses.{layer_bit}
use Rattle.planes.specs.Planes.{row_at, lane, Shaped, Goes, column_of, with_column}
use Rattle.planes.proofs.Column.{put_shaped, put_same, put_other, lane_bit}

-- from x₀ to x the columns below j went through the S-box, and the others are as they were
pub record Substituted (t : List ℕ) (x₀ : List (List ℕ)) (j : ℕ) (x : List (List ℕ)) : Type 0 where
  pub shape : Shaped x
  pub done : (k : ℕ) → k < j → (i : ℕ) → i < 8 → get_or (get_or x i []) k 0 ≡ get_or (layer_at 64 t (column_of x₀ k)) i 0
  pub rest : (k : ℕ) → j ≤ k → (i : ℕ) → i < 8 → get_or (get_or x i []) k 0 ≡ get_or (get_or x₀ i []) k 0

pub substituted_none : (t : List ℕ) {x : List (List ℕ)} → Shaped x → Substituted t x 0 x
substituted_none t s = record { shape = s; done = λ k h i hi. absurd (omega arith); rest = λ k h i hi. refl }

pub substituted_more : {t : List ℕ} {x₀ : List (List ℕ)} {j : ℕ} {x : List (List ℕ)}
    → Substituted t x₀ j x → j < 16 → (y : List ℕ) → y ≡ layer_at 64 t (column_of x j) → Substituted t x₀ (j + 1) (with_column x j y)
substituted_more {t} {x₀} {j} {x} s hj y e =
    record {
      shape = put_shaped x j y s.shape;
      done = λ k hk i hi. at k hk i hi (ℕ_discrete k j);
      rest = λ k hk i hi. put_other x j y i hi k (λ q. omega arith) ∙ s.rest k (omega arith) i hi;
    }
  where
    -- column j has not been touched yet
    same : column_of x j ≡ column_of x₀ j
    same = tab_ext 8 (λ i. get_or (get_or x i []) j 0) (λ i. get_or (get_or x₀ i []) j 0) (s.rest j (omega arith))

    at : (k : ℕ) → k < j + 1 → (i : ℕ) → i < 8 → Dec (k ≡ j) → get_or (get_or (with_column x j y) i []) k 0 ≡ get_or (layer_at 64 t (column_of x₀ k)) i 0
    at k hk i hi (yes q) =
        rw q (put_same x j y s.shape i hi hj ∙ ap (λ (l : List ℕ). get_or l i 0) (e ∙ ap (layer_at 64 t) same))
    at k hk i hi (no d) = put_other x j y i hi k d ∙ s.done k (omega arith) i hi

-- column b of the planes of column k is column k of state b
state_column : (x : List (List ℕ)) (b k : ℕ) → k < 16 → column (column_of x k) b ≡ column (lane x b) k
unfolding column
state_column x b k hk =
    gather_ext 8 (λ i. bit (get_or (column_of x k) i 0) b) (λ i. bit (get_or (lane x b) i 0) k)
    (λ i hi. ap (λ (n : ℕ). bit n b) (get_or_tab 8 (λ i. get_or (get_or x i []) k 0) i hi) ∙ sym (lane_bit x b i hi k hk))

-- when all sixteen columns went through the S-box, each state went through its layer
pub substituted_all : {t : List ℕ} {x₀ x : List (List ℕ)} → Substituted t x₀ 16 x → Goes (λ b. layer t) x₀ x
unfolding lane row_at layer
substituted_all {t} {x₀} {x} s =
    record {
      shape = s.shape;
      lanes = λ b hb.
          tab_ext 8 (λ i. row_at (get_or x i []) b) (λ i. gather 16 (λ k. bit (get_or t (column (lane x₀ b) k) 0) i))
          (λ i hi. gather_ext 16 (λ k. bit (get_or (get_or x i []) k 0) b) (λ k. bit (get_or t (column (lane x₀ b) k) 0) i)
          (λ k hk.
          ap (λ (n : ℕ). bit n b) (s.done k hk i hi)
          ∙ layer_bit 64 t (column_of x₀ k) b hb i hi
          ∙ ap (λ (c : ℕ). bit (get_or t c 0) i) (state_column x₀ b k hk)));
    }
