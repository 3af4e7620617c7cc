-- The fifteen tables of the paper, in the order in which print_tables prints them.
use Rattle.std.specs.Prelude.{List, [], ◌∷◌, ℕ, get_or}
use Rattle.sbox.specs.Sbox
use Rattle.printed.specs.Lboxes

-- "L-boxes come first (each L1,1, L1,2, L2,1, L2,2), in each group Scream, its inverse, iScream"
unfoldable pub tables : List (List ℕ)
tables =
    Lboxes.table8 ∷ Lboxes.table9 ∷ Lboxes.table10 ∷ Lboxes.table11 ∷
    Lboxes.table12 ∷ Lboxes.table13 ∷ Lboxes.table14 ∷ Lboxes.table15 ∷
    Lboxes.table17 ∷ Lboxes.table18 ∷ Lboxes.table19 ∷ Lboxes.table20 ∷
    Sbox.scream ∷ Sbox.scream_inverse ∷ Sbox.iscream ∷ []

-- the table at a place in this order, from 0
unfoldable pub table : ℕ → List ℕ
table p = get_or tables p []

-- its entry at a byte
abbrev pub entry : ℕ → ℕ → ℕ
entry p b = get_or (table p) b 0
