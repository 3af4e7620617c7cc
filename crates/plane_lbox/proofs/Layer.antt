-- The loop over the eight rows: each row of planes times the matrix is the L-box layer of every state.
use mathlib.Core.Path.{◌≡◌, sym, ap, ◌∙◌}
use mathlib.Core.List.{List, []}
use Prim.Native.Nat.{ℕ, ◌+◌, ◌<◌}
use native.Mathlib.Omega.{arith}
use lib.ListN.{length, get_or, set}
use Rattle.bits.specs.Bit.{bit, gather}
use Rattle.bits.proofs.Bits.{bit_lt, bit_gather, gather_ext, gather_bit}
use Rattle.bits.proofs.Lists.{get_or_tab, tab_ext}
use Rattle.bits.proofs.Elements.{Replaced, replaced_none, replaced_more}
use Rattle.lbox.specs.Lbox
use Rattle.lbox.proofs.Matrix.{times_lt}
use Rattle.planes.specs.Planes.{row_at, lane, Shaped, Goes}
use Rattle.plane_lbox.specs.Network.{times_at}

-- the first i rows of planes are multiplied
abbrev pub Multiplied : List (List ℕ) → List (List ℕ) → ℕ → List (List ℕ) → Type 0
Multiplied m x₀ i x = Replaced [] 8 (λ j. times_at 64 m (get_or x₀ j [])) x₀ i x

module _ (m : List (List ℕ)) where
  pub multiplied_none : (x : List (List ℕ)) → Shaped x → Multiplied m x 0 x
  multiplied_none x s = replaced_none [] 8 (λ j. times_at 64 m (get_or x j [])) x s.long

  pub multiplied_more : {x₀ : List (List ℕ)} {i : ℕ} {x : List (List ℕ)}
      → Multiplied m x₀ i x → i < 8 → (y : List ℕ) → y ≡ times_at 64 m (get_or x i []) → Multiplied m x₀ (i + 1) (set x i y)
  multiplied_more {i = i} h hi y e = replaced_more [] h hi y (e ∙ ap (times_at 64 m) (h.rest i (omega arith)))

  module _ (square : length m ≡ 16) where
    -- each row that the planes hold is multiplied
    pub row_times : (r : List ℕ) (b : ℕ) → b < 64 → row_at (times_at 64 m r) b ≡ Lbox.times m (row_at r b)
    unfolding row_at times_at
    row_times r b hb =
        let y : ℕ = Lbox.times m (row_at r b) in
        gather_ext 16 (λ j. bit (get_or (times_at 64 m r) j 0) b) (bit y)
        (λ j hj.
        ap (λ (p : ℕ). bit p b) (get_or_tab 16 (λ i. gather 64 (λ b. bit (Lbox.times m (row_at r b)) i)) j hj)
        ∙ bit_gather 64 (λ b. bit (Lbox.times m (row_at r b)) j) (λ b. bit_lt (Lbox.times m (row_at r b)) j) b hb)
        ∙ gather_bit 16 y (rw square at (times_lt m (row_at r b)))

    -- with all eight rows of planes done, each state has gone through the layer
    pub multiplied_goes : {x y : List (List ℕ)} → Multiplied m x 8 y → Goes (λ b. Lbox.layer m) x y
    unfolding times_at lane Lbox.layer
    multiplied_goes {x} {y} h =
        record {
          shape = record { long = h.long; wide = λ i hi. ap length (h.done i hi) };
          lanes = λ b hb.
              tab_ext 8 (λ i. row_at (get_or y i []) b) (λ i. Lbox.times m (get_or (lane x b) i 0))
              (λ i hi.
              ap (λ (r : List ℕ). row_at r b) (h.done i hi)
              ∙ row_times (get_or x i []) b hb
              ∙ ap (Lbox.times m) (sym (get_or_tab 8 (λ i. row_at (get_or x i []) b) i hi)));
        }
