-- The three L-boxes by name: each one's matrix, and its four tables as the paper prints them. No entry point's contract cites this file.
use Rattle.std.specs.Prelude.{List, [], ◌∷◌, ℕ}
use Rattle.lbox.specs.Lbox
use Rattle.printed.specs.Printed.{table}
use Rattle.tables.specs.declared.LBox.{LBox}
use Rattle.tables.specs.declared.LBox.TheVariants.{Scream, ScreamInverse, IScream}

abbrev pub matrix : LBox → List (List ℕ)
matrix Scream = Lbox.scream
matrix ScreamInverse = Lbox.scream_inverse
matrix IScream = Lbox.iscream

-- L1,1, L1,2, L2,1 and L2,2
abbrev pub printed : LBox → List (List ℕ)
printed Scream = table 0 ∷ table 1 ∷ table 2 ∷ table 3 ∷ []
printed ScreamInverse = table 4 ∷ table 5 ∷ table 6 ∷ table 7 ∷ []
printed IScream = table 8 ∷ table 9 ∷ table 10 ∷ table 11 ∷ []
