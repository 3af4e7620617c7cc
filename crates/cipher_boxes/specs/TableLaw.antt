-- One theorem over the fifteen tables: what is made, what the paper prints, and what the ciphers compute.
use Rattle.std.specs.Prelude.{◌≡◌, List, ℕ, ◌+◌, ◌*◌, ◌/◌, ◌%◌, ◌^◌, ◌<◌, length, get_or}
use Rattle.std.specs.Int.Bits.{bit_xor}
use Rattle.sbox.specs.Sbox
use Rattle.lbox.specs.Lbox
use Rattle.printed.specs.Printed.{tables, table, entry}
use Rattle.printed.specs.Rule.{made, rule}
use Rattle.made_tables.specs.Boxes.{boxes_of, lbox_place, sbox_place}
use Rattle.planes.specs.Planes.{row_at}
use Rattle.plane_lbox.specs.Network.{times_at}
use Rattle.rounds.specs.declared.Cipher.{Cipher}
use Rattle.cipher_boxes.specs.declared.Direction.{Direction}
use Rattle.cipher_boxes.specs.Computed.{sbox_in, lbox_in, boxes_in, computed, planes_computed}

-- "What it makes must equal 000's tables and the cipher's own S-boxes and L-boxes", at the place p and the byte b; the cipher's are those of
-- each cipher and direction that the table is for
pub record SameEntry (p b : ℕ) : Type 0 where
  pub by_rule : made (rule p) b ≡ entry p b
  pub by_layers : (k : Cipher) (d : Direction) → boxes_in k d ≡ boxes_of p → computed k d p b ≡ entry p b
  -- and so by the boxes on planes
  pub on_planes : (k : Cipher) (d : Direction) → boxes_in k d ≡ boxes_of p → planes_computed k d p b ≡ entry p b

-- a cipher and a direction that the table at the place p is for
pub record Served (p : ℕ) : Type 0 where
  pub cipher : Cipher
  pub direction : Direction
  pub whose : boxes_in cipher direction ≡ boxes_of p

-- "L(b0 || b1) = (L11(b1) xor L21(b0)) || (L12(b1) xor L22(b0))", by the four tables from the place p on; "b0 is the high byte, b1 the low"
abbrev pub by_four : ℕ → ℕ → ℕ
by_four p x =
    let b0 : ℕ = x / 256 % 256 in
    let b1 : ℕ = x % 256 in
    bit_xor (entry p b1) (entry (p + 2) b0) * 256 + bit_xor (entry (p + 1) b1) (entry (p + 3) b0)

-- "the argument should be made for every table together"
pub record TableLaw : Type 0 where
  -- fifteen tables of 256 entries
  pub many : length tables ≡ 15
  pub long : (p : ℕ) → p < 15 → length (table p) ≡ 256
  -- "entry for entry"
  pub same : (p b : ℕ) → p < 15 → b < 256 → SameEntry p b
  -- no place is without a cipher and a direction
  pub served : (p : ℕ) → Served p
  -- and so at every column and every row of every state: the layers go by the paper's tables
  pub columns : (k : Cipher) (d : Direction) (w : List ℕ) (j : ℕ) → j < 16
      → Sbox.column (Sbox.layer (sbox_in k d) w) j ≡ entry (sbox_place (boxes_in k d)) (Sbox.column w j)
  pub rows : (k : Cipher) (d : Direction) (w : List ℕ) (i : ℕ) → i < 8 → get_or w i 0 < 2 ^ 16
      → get_or (Lbox.layer (lbox_in k d) w) i 0 ≡ by_four (lbox_place (boxes_in k d)) (get_or w i 0)
  -- and at every column and every row that planes of sixty-four states hold
  pub plane_columns : (k : Cipher) (d : Direction) (w : List ℕ) (j : ℕ) → j < 64
      → Sbox.column (Sbox.layer_at 64 (sbox_in k d) w) j ≡ entry (sbox_place (boxes_in k d)) (Sbox.column w j)
  pub plane_rows : (k : Cipher) (d : Direction) (r : List ℕ) (b : ℕ) → b < 64
      → row_at (times_at 64 (lbox_in k d) r) b ≡ by_four (lbox_place (boxes_in k d)) (row_at r b)
