-- What the ciphers compute: their own layers, by the definitions of enciphering and deciphering. And what their boxes on planes compute.
use Rattle.std.specs.Prelude.{List, [], ◌∷◌, ℕ, get_or}
use Rattle.bits.specs.Bit.{bit}
use Rattle.bits.specs.Table.{tab}
use Rattle.sbox.specs.Sbox
use Rattle.lbox.specs.Lbox
use Rattle.printed.specs.declared.Half.{Half}
use Rattle.printed.specs.Rule.{in_half, half_of, Rule, product, equations, rule}
use Rattle.made_tables.specs.declared.Boxes.{Boxes}
use Rattle.made_tables.specs.declared.Boxes.TheVariants as box
use Rattle.planes.specs.Planes.{row_at}
use Rattle.plane_lbox.specs.Network.{times_at}
use Rattle.rounds.specs.declared.Cipher.{Cipher}
use Rattle.rounds.specs.declared.Cipher.TheVariants.{Scream, IScream}
use Rattle.rounds.specs.Cipher.{parts}
use Rattle.cipher_boxes.specs.declared.Direction.{Direction}
use Rattle.cipher_boxes.specs.declared.Direction.TheVariants.{Enciphering, Deciphering}

-- the boxes of a round and of a round undone
abbrev pub sbox_in : Cipher → Direction → List ℕ
sbox_in k Enciphering = (parts k).sbox
sbox_in k Deciphering = (parts k).sbox_inverse

abbrev pub lbox_in : Cipher → Direction → List (List ℕ)
lbox_in k Enciphering = (parts k).lbox
lbox_in k Deciphering = (parts k).lbox_inverse

-- whose tables are for these: iScream's serve both directions
abbrev pub boxes_in : Cipher → Direction → Boxes
boxes_in Scream Enciphering = box.Scream
boxes_in Scream Deciphering = box.ScreamInverse
boxes_in IScream d = box.IScream

-- what the S-layer makes of the byte b, alone in column 0
unfoldable pub sbox_entry : Cipher → Direction → ℕ → ℕ
sbox_entry k d b = Sbox.column (Sbox.layer (sbox_in k d) (Sbox.alone b)) 0

-- what the L-layer by a matrix makes of the byte b in a half of row 0: a half of that row
abbrev pub entry_by : List (List ℕ) → Half → Half → ℕ → ℕ
entry_by m from to b =
    let w : List ℕ = in_half from b ∷ 0 ∷ 0 ∷ 0 ∷ 0 ∷ 0 ∷ 0 ∷ 0 ∷ [] in
    half_of to (get_or (Lbox.layer m w) 0 0)

-- and so that of a cipher
unfoldable pub lbox_entry : Cipher → Direction → Half → Half → ℕ → ℕ
lbox_entry k d = entry_by (lbox_in k d)

-- the entry of the table at a place, as the layers give it
abbrev pub computed_by : Cipher → Direction → Rule → ℕ → ℕ
computed_by k d (product m from to) b = lbox_entry k d from to b
computed_by k d (equations e) b = sbox_entry k d b

abbrev pub computed : Cipher → Direction → ℕ → ℕ → ℕ
computed k d p b = computed_by k d (rule p) b

-- what the circuit on planes makes of the byte b, alone in column 0, that is in the first state
unfoldable pub plane_sbox_entry : Cipher → Direction → ℕ → ℕ
plane_sbox_entry k d b = Sbox.column (Sbox.layer_at 64 (sbox_in k d) (Sbox.alone b)) 0

-- what the network makes of the byte b in a half of a row, whose bits stand in the first state's place of sixteen planes
unfoldable pub plane_lbox_entry : Cipher → Direction → Half → Half → ℕ → ℕ
plane_lbox_entry k d from to b = half_of to (row_at (times_at 64 (lbox_in k d) (tab 16 (bit (in_half from b)))) 0)

-- the entry of the table at a place, as the boxes on planes give it
abbrev pub planes_computed_by : Cipher → Direction → Rule → ℕ → ℕ
planes_computed_by k d (product m from to) b = plane_lbox_entry k d from to b
planes_computed_by k d (equations e) b = plane_sbox_entry k d b

abbrev pub planes_computed : Cipher → Direction → ℕ → ℕ → ℕ
planes_computed k d p b = planes_computed_by k d (rule p) b
