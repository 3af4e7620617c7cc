-- The theorem over the fifteen tables.
use mathlib.Core.Path.{◌≡◌, refl, sym, ap, ◌∙◌}
use mathlib.Core.Bool.{Bool, true, false}
use mathlib.Core.List.{List, [], ◌∷◌}
use Prim.Native.Nat.{ℕ, zero, suc, ◌+◌, ◌-◌, ◌/◌, ◌%◌, ◌^◌, ◌≤◌, ◌<◌}
use native.Mathlib.Omega.{arith}
use borrow.Author.Tests.{lt-ltb, le-ltb, ltb-true, ltb-false}
use lib.Bits.{bit_xor, xor_block}
use lib.Dec.{ltb, lit<}
use lib.ListN.{length, get_or}
use Rattle.bits.specs.Bit.{bit}
use Rattle.bits.specs.Table.{tab}
use Rattle.bits.proofs.Lists.{get_or_tab}
use Rattle.sbox.specs.Sbox
use Rattle.sbox.proofs.Circuit.{column_lt}
use Rattle.sbox.proofs.Inverses.{column_layer_at}
use Rattle.lbox.specs.Lbox
use Rattle.lbox.proofs.Matrix.{by_halves}
use Rattle.printed.specs.declared.Half.{Half}
use Rattle.printed.specs.declared.Half.TheVariants.{Low, High}
use Rattle.printed.specs.Printed.{tables, entry}
use Rattle.printed.specs.Rule.{half_of, in_half, Rule, product, equations, made, rules, rule}
use Rattle.printed.proofs.Right.{table_long, entry_byte, made_is}
use Rattle.printed.proofs.Joined.{product_whole}
use Rattle.made_tables.specs.declared.Boxes.{Boxes}
use Rattle.made_tables.specs.declared.Boxes.TheVariants as box
use Rattle.made_tables.specs.Boxes.{boxes_at, boxes_of, lbox_place, sbox_place, matrix_of, sbox_of, from_at, to_at}
use Rattle.made_tables.proofs.Places.{lbox_rule, sbox_place_lem, sbox_at, sbox_byte, through}
use Rattle.planes.specs.Planes.{row_at}
use Rattle.plane_lbox.specs.Network.{times_at}
use Rattle.planes.proofs.Rows.{row_lt}
use Rattle.plane_lbox.proofs.Layer.{row_times}
use Rattle.rounds.specs.declared.Cipher.{Cipher}
use Rattle.rounds.specs.declared.Cipher.TheVariants.{Scream, IScream}
use Rattle.cipher_boxes.specs.declared.Direction.{Direction}
use Rattle.cipher_boxes.specs.declared.Direction.TheVariants.{Enciphering, Deciphering}
use Rattle.cipher_boxes.specs.Computed.{sbox_in, lbox_in, boxes_in, sbox_entry, lbox_entry, computed_by, computed}
use Rattle.cipher_boxes.specs.Computed.{plane_sbox_entry, plane_lbox_entry, planes_computed_by, planes_computed}
use Rattle.cipher_boxes.specs.TableLaw.{Served, by_four, TableLaw}
use Rattle.cipher_boxes.proofs.FirstState.{row_first}

-- the boxes of a cipher and direction are those that the tables are of
pub sbox_is : (k : Cipher) (d : Direction) → sbox_in k d ≡ sbox_of (boxes_in k d)
sbox_is Scream Enciphering = refl
sbox_is Scream Deciphering = refl
sbox_is IScream Enciphering = refl
sbox_is IScream Deciphering = refl

pub lbox_is : (k : Cipher) (d : Direction) → lbox_in k d ≡ matrix_of (boxes_in k d)
lbox_is Scream Enciphering = refl
lbox_is Scream Deciphering = refl
lbox_is IScream Enciphering = refl
lbox_is IScream Deciphering = refl

-- an L-layer on a row is the matrix times the row
row_is : (m : List (List ℕ)) (w : List ℕ) (i : ℕ) → i < 8 → get_or (Lbox.layer m w) i 0 ≡ Lbox.times m (get_or w i 0)
unfolding Lbox.layer
row_is m w i h = get_or_tab 8 (λ i. Lbox.times m (get_or w i 0)) i h

module _ (k : Cipher) (d : Direction) (p b : ℕ) (hb : b < 256) (e : boxes_in k d ≡ boxes_of p) where
  -- an entry of an L-table
  by_product : p < 12 → computed k d p b ≡ entry p b
  unfolding lbox_entry
  by_product h =
      let from = from_at (p % 4) in
      let to = to_at (p % 4) in
      let whose : boxes_in k d ≡ boxes_at (p / 4) = rw (lt-ltb p 12 h) at e in
      let r = lbox_rule p h in
      ap (λ (r : Rule). computed_by k d r b) r
      ∙ ap (half_of to) (row_is (lbox_in k d) (in_half from b ∷ 0 ∷ 0 ∷ 0 ∷ 0 ∷ 0 ∷ 0 ∷ 0 ∷ []) 0 (lit< tt))
      ∙ ap (λ (m : List (List ℕ)). half_of to (Lbox.times m (in_half from b))) (lbox_is k d ∙ ap matrix_of whose)
      ∙ sym (ap (λ (r : Rule). made r b) r)
      ∙ made_is p (omega arith) b hb

  -- an entry of an S-table
  last : (g : ℕ) → g < 3 → computed_by k d (rule (12 + g)) b ≡ sbox_entry k d b
  unfolding rule rules
  last zero h = refl
  last (suc zero) h = refl
  last (suc (suc zero)) h = refl
  last (suc (suc (suc g))) h = absurd (omega arith)

  by-equations : 12 ≤ p → p < 15 → computed k d p b ≡ entry p b
  unfolding sbox_entry
  by-equations l h =
      let whose : boxes_in k d ≡ boxes_at (p - 12) = rw (le-ltb p 12 l) at e in
      let there : 12 + (p - 12) ≡ p = omega arith in
      rw there at (last (p - 12) (omega arith))
      ∙ ap (λ (t : List ℕ). Sbox.column (Sbox.layer t (Sbox.alone b)) 0) (sbox_is k d ∙ ap sbox_of whose)
      ∙ through (boxes_at (p - 12)) b hb
      ∙ ap (λ (t : List ℕ). get_or t b 0) (sbox_place_lem p l h)

  computed-is : p < 15 → computed k d p b ≡ entry p b
  computed-is h = either (ltb p 12) refl
    where
      either : (t : Bool) → ltb p 12 ≡ t → computed k d p b ≡ entry p b
      either true y = by_product (ltb-true p 12 y)
      either false y = by-equations (ltb-false p 12 y) h

-- a product by the four tables of its matrix
module _ (m : List (List ℕ)) (p : ℕ) (long : length m ≡ 16) (room : p + 3 < 15) where
  by-four : rule p ≡ product m Low High → rule (p + 1) ≡ product m Low Low → rule (p + 2) ≡ product m High High → rule (p + 3) ≡ product m High Low
      → (x : ℕ) → x < 2 ^ 16 → Lbox.times m x ≡ by_four p x
  by-four e11 e12 e21 e22 x hx =
      let b0 : ℕ = x / 256 % 256 in
      let b1 : ℕ = x % 256 in
      let low = product_whole m Low p (p + 1) long (omega arith) (omega arith) e11 e12 b1 (omega arith) in
      let high = product_whole m High (p + 2) (p + 3) long (omega arith) (omega arith) e21 e22 b0 (omega arith) in
      sym (by_halves m x hx)
      ∙ sym (λ i. bit_xor (low i) (high i))
      ∙ xor_block 8 (entry p b1) (entry (p + 2) b0) (entry (p + 1) b1) (entry (p + 3) b0)
      (entry_byte (p + 1) (omega arith) b1 (omega arith)) (entry_byte (p + 3) (omega arith) b0 (omega arith))

-- each matrix has sixteen rows
long_of : (x : Boxes) → length (matrix_of x) ≡ 16
unfolding Lbox.scream Lbox.scream_inverse Lbox.iscream
long_of box.Scream = refl
long_of box.ScreamInverse = refl
long_of box.IScream = refl

four_of_lem : (x : Boxes) (y : ℕ) → y < 2 ^ 16 → Lbox.times (matrix_of x) y ≡ by_four (lbox_place x) y
unfolding rule rules Lbox.scream Lbox.scream_inverse Lbox.iscream
four_of_lem box.Scream = by-four Lbox.scream 0 (long_of box.Scream) (lit< tt) refl refl refl refl
four_of_lem box.ScreamInverse = by-four Lbox.scream_inverse 4 (long_of box.ScreamInverse) (lit< tt) refl refl refl refl
four_of_lem box.IScream = by-four Lbox.iscream 8 (long_of box.IScream) (lit< tt) refl refl refl refl

module _ (k : Cipher) (d : Direction) (w : List ℕ) where
  -- a column goes by the table, however many columns there are
  column-at : (n j : ℕ) → j < n → Sbox.column (Sbox.layer_at n (sbox_in k d) w) j ≡ entry (sbox_place (boxes_in k d)) (Sbox.column w j)
  column-at n j h =
      let x = boxes_in k d in
      ap (λ (t : List ℕ). Sbox.column (Sbox.layer_at n t w) j) (sbox_is k d)
      ∙ column_layer_at n (sbox_of x) w j h (sbox_byte x (Sbox.column w j) (column_lt w j))
      ∙ ap (λ (t : List ℕ). get_or t (Sbox.column w j) 0) (sbox_at x)

  by-column : (j : ℕ) → j < 16 → Sbox.column (Sbox.layer (sbox_in k d) w) j ≡ entry (sbox_place (boxes_in k d)) (Sbox.column w j)
  unfolding Sbox.layer Sbox.layer_at
  by-column = column-at 16

  by_row : (i : ℕ) → i < 8 → get_or w i 0 < 2 ^ 16 → get_or (Lbox.layer (lbox_in k d) w) i 0 ≡ by_four (lbox_place (boxes_in k d)) (get_or w i 0)
  by_row i h hw =
      row_is (lbox_in k d) w i h
      ∙ ap (λ (m : List (List ℕ)). Lbox.times m (get_or w i 0)) (lbox_is k d)
      ∙ four_of_lem (boxes_in k d) (get_or w i 0) hw

-- on planes
module _ (k : Cipher) (d : Direction) where
  -- the network on a row that the planes hold is the matrix times the row
  plane-row-is : (r : List ℕ) (b : ℕ) → b < 64 → row_at (times_at 64 (lbox_in k d) r) b ≡ Lbox.times (lbox_in k d) (row_at r b)
  plane-row-is r b h = row_times (lbox_in k d) (ap length (lbox_is k d) ∙ long_of (boxes_in k d)) r b h

  by-plane-row : (r : List ℕ) (b : ℕ) → b < 64 → row_at (times_at 64 (lbox_in k d) r) b ≡ by_four (lbox_place (boxes_in k d)) (row_at r b)
  by-plane-row r b h =
      plane-row-is r b h
      ∙ ap (λ (m : List (List ℕ)). Lbox.times m (row_at r b)) (lbox_is k d)
      ∙ four_of_lem (boxes_in k d) (row_at r b) (row_lt r b)

  module _ (b : ℕ) (hb : b < 256) where
    in-half-lt : (h : Half) → in_half h b < 2 ^ 16
    in-half-lt Low = omega arith
    in-half-lt High = omega arith

    -- an entry by the boxes on planes is the one by the layers
    same-sbox : plane_sbox_entry k d b ≡ sbox_entry k d b
    unfolding plane_sbox_entry sbox_entry
    same-sbox = column-at k d (Sbox.alone b) 64 0 (lit< tt) ∙ sym (by-column k d (Sbox.alone b) 0 (lit< tt))

    same-lbox : (from to : Half) → plane_lbox_entry k d from to b ≡ lbox_entry k d from to b
    unfolding plane_lbox_entry lbox_entry
    same-lbox from to =
        let x : ℕ = in_half from b in
        ap (half_of to)
        (plane-row-is (tab 16 (bit x)) 0 (lit< tt)
        ∙ ap (Lbox.times (lbox_in k d)) (row_first x (in-half-lt from))
        ∙ sym (row_is (lbox_in k d) (x ∷ 0 ∷ 0 ∷ 0 ∷ 0 ∷ 0 ∷ 0 ∷ 0 ∷ []) 0 (lit< tt)))

    same_by : (r : Rule) → planes_computed_by k d r b ≡ computed_by k d r b
    same_by (product m from to) = same-lbox from to
    same_by (equations e) = same-sbox

    planes-computed-is : (p : ℕ) → p < 15 → boxes_in k d ≡ boxes_of p → planes_computed k d p b ≡ entry p b
    planes-computed-is p h e = same_by (rule p) ∙ computed-is k d p b hb e h

-- each box is one of a cipher in a direction
served_by : (x : Boxes) (p : ℕ) → x ≡ boxes_of p → Served p
served_by box.Scream p e = record { cipher = Scream; direction = Enciphering; whose = e }
served_by box.ScreamInverse p e = record { cipher = Scream; direction = Deciphering; whose = e }
served_by box.IScream p e = record { cipher = IScream; direction = Enciphering; whose = e }

pub table_law : TableLaw
unfolding tables
table_law =
    record {
      many = refl;
      long = table_long;
      same = λ p b h hb.
          record {
            by_rule = made_is p h b hb;
            by_layers = λ k d e. computed-is k d p b hb e h;
            on_planes = λ k d e. planes-computed-is k d b hb p h e;
          };
      served = λ p. served_by (boxes_of p) p refl;
      columns = by-column;
      rows = by_row;
      plane_columns = λ k d w. column-at k d w 64;
      plane_rows = by-plane-row;
    }
