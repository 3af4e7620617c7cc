-- The three boxes of each group, and which tables are whose.
use Rattle.std.specs.Prelude.{cond, List, ℕ, ◌-◌, ◌/◌, eqb, ltb}
use Rattle.sbox.specs.Sbox
use Rattle.lbox.specs.Lbox
use Rattle.printed.specs.declared.Half.{Half}
use Rattle.printed.specs.declared.Half.TheVariants.{Low, High}
use Rattle.made_tables.specs.declared.Boxes.{Boxes}
use Rattle.made_tables.specs.declared.Boxes.TheVariants.{Scream, ScreamInverse, IScream}

-- "in each group Scream, its inverse, iScream"
abbrev pub boxes_at : ℕ → Boxes
boxes_at g = cond (eqb g 0) Scream (cond (eqb g 1) ScreamInverse IScream)

-- whose box the table at a place is of: four tables for each L-box, then one for each S-box
abbrev pub boxes_of : ℕ → Boxes
boxes_of p = boxes_at (cond (ltb p 12) (p / 4) (p - 12))

-- the first place of an L-box's tables, and the place of an S-box's
abbrev pub lbox_place : Boxes → ℕ
lbox_place Scream = 0
lbox_place ScreamInverse = 4
lbox_place IScream = 8

abbrev pub sbox_place : Boxes → ℕ
sbox_place Scream = 12
sbox_place ScreamInverse = 13
sbox_place IScream = 14

abbrev pub matrix_of : Boxes → List (List ℕ)
matrix_of Scream = Lbox.scream
matrix_of ScreamInverse = Lbox.scream_inverse
matrix_of IScream = Lbox.iscream

abbrev pub sbox_of : Boxes → List ℕ
sbox_of Scream = Sbox.scream
sbox_of ScreamInverse = Sbox.scream_inverse
sbox_of IScream = Sbox.iscream

-- "each L1,1, L1,2, L2,1, L2,2": of these four, L1,i takes the low byte of the word, and Li,1 gives the high byte of the product
abbrev pub from_at : ℕ → Half
from_at t = cond (ltb t 2) Low High

abbrev pub to_at : ℕ → Half
to_at t = cond (eqb t 0) High (cond (eqb t 2) High Low)
