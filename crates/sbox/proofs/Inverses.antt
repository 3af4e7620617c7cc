-- The S-box layer takes states to states, and is undone by its inverse.
use mathlib.Core.Path.{◌≡◌, sym, ap, ◌∙◌}
use mathlib.Core.List.{List}
use mathlib.Core.Bool.{Bool, ◌&&◌}
use Prim.Native.Nat.{ℕ, ◌<◌}
use lib.Dec.{T, eqb, eqb→eq, ltb, ltb→lt}
use lib.ListN.{get_or}
use Rattle.bits.specs.Bit.{bit, gather}
use Rattle.bits.proofs.Bits.{bit_lt, bit_gather, gather_lt, gather_ext, gather_bit}
use Rattle.bits.proofs.Lists.{get_or_tab, tab_ext, tab_get_or}
use Rattle.bits.proofs.Tests.{all, all_at, and_left, and_right}
use Rattle.state.specs.Rows.{Rows}
use Rattle.state.proofs.Rows.{tab_rows}
use Rattle.sbox.specs.Sbox
use Rattle.sbox.proofs.Circuit.{column_bit, column_lt}

pub sbox_rows : (t w : List ℕ) → Rows (Sbox.layer t w)
unfolding Sbox.layer
sbox_rows t w =
    tab_rows (λ i. gather 16 (λ j. bit (get_or t (Sbox.column w j) 0) i))
    (λ i. gather_lt 16 (λ j. bit (get_or t (Sbox.column w j) 0) i) (λ j. bit_lt (get_or t (Sbox.column w j) 0) i))

-- a bit of the layer is that of its column's entry, however many columns there are
pub layer_bit : (k : ℕ) (t w : List ℕ) (j : ℕ) → j < k → (i : ℕ) → i < 8 → bit (get_or (Sbox.layer_at k t w) i 0) j ≡ bit (get_or t (Sbox.column w j) 0) i
unfolding Sbox.layer_at
layer_bit k t w j hj i hi =
    ap (λ (x : ℕ). bit x j) (get_or_tab 8 (λ i. gather k (λ j. bit (get_or t (Sbox.column w j) 0) i)) i hi)
    ∙ bit_gather k (λ j. bit (get_or t (Sbox.column w j) 0) i) (λ j. bit_lt (get_or t (Sbox.column w j) 0) i) j hj

-- a column goes through the S-box, however many columns there are
pub column_layer_at : (k : ℕ) (t w : List ℕ) (j : ℕ) → j < k → get_or t (Sbox.column w j) 0 < 256
    → Sbox.column (Sbox.layer_at k t w) j ≡ get_or t (Sbox.column w j) 0
unfolding Sbox.column
column_layer_at k t w j hj h =
    gather_ext 8 (λ i. bit (get_or (Sbox.layer_at k t w) i 0) j) (bit (get_or t (Sbox.column w j) 0)) (layer_bit k t w j hj)
    ∙ gather_bit 8 (get_or t (Sbox.column w j) 0) h

-- a column goes through the S-box
pub column_layer : (t w : List ℕ) (j : ℕ) → j < 16 → get_or t (Sbox.column w j) 0 < 256 → Sbox.column (Sbox.layer t w) j ≡ get_or t (Sbox.column w j) 0
unfolding Sbox.layer Sbox.layer_at
column_layer = column_layer_at 16

-- the table u takes each entry of the table t back to its column
abbrev pub back : List ℕ → List ℕ → Bool
back t u = all 256 (λ c. ltb (get_or t c 0) 256 && eqb (get_or u (get_or t c 0) 0) c)

module _ (t u : List ℕ) (test : T (back t u)) where
  at : (c : ℕ) → c < 256 → (get_or t c 0 < 256) × (get_or u (get_or t c 0) 0 ≡ c)
  at c h =
      let k : T (ltb (get_or t c 0) 256 && eqb (get_or u (get_or t c 0) 0) c) = all_at 256 (λ c. ltb (get_or t c 0) 256 && eqb (get_or u (get_or t c 0) 0) c) test c h in (
        ltb→lt (get_or t c 0) 256 (and_left (ltb (get_or t c 0) 256) (eqb (get_or u (get_or t c 0) 0) c) k),
        eqb→eq (get_or u (get_or t c 0) 0) c (and_right (ltb (get_or t c 0) 256) (eqb (get_or u (get_or t c 0) 0) c) k),
      )

  bit-back : (w : List ℕ) (i : ℕ) → i < 8 → (j : ℕ) → j < 16 → bit (get_or u (Sbox.column (Sbox.layer t w) j) 0) i ≡ bit (get_or w i 0) j
  bit-back w i hi j hj =
      let k = at (Sbox.column w j) (column_lt w j) in
      ap (λ (c : ℕ). bit (get_or u c 0) i) (column_layer t w j hj k.0) ∙ ap (λ (c : ℕ). bit c i) k.1 ∙ sym (column_bit w j i hi)

  pub sbox_undone : (w : List ℕ) → Rows w → Sbox.layer u (Sbox.layer t w) ≡ w
  unfolding Sbox.layer
  sbox_undone w r =
      tab_ext 8 (λ i. gather 16 (λ j. bit (get_or u (Sbox.column (Sbox.layer t w) j) 0) i)) (λ i. get_or w i 0)
      (λ i hi.
      gather_ext 16 (λ j. bit (get_or u (Sbox.column (Sbox.layer t w) j) 0) i) (bit (get_or w i 0)) (bit-back w i hi)
      ∙ gather_bit 16 (get_or w i 0) (r.words i))
      ∙ tab_get_or 8 w r.long

-- The S-boxes of both ciphers: each pair is tested by computing, at each column.
pub scream_sbox_back : T (back Sbox.scream Sbox.scream_inverse)
unfolding Sbox.scream Sbox.scream_inverse
scream_sbox_back = tt

pub scream_sbox_forth : T (back Sbox.scream_inverse Sbox.scream)
unfolding Sbox.scream Sbox.scream_inverse
scream_sbox_forth = tt

pub iscream_sbox_back : T (back Sbox.iscream Sbox.iscream)
unfolding Sbox.iscream
iscream_sbox_back = tt
