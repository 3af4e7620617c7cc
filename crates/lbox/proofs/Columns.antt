-- Scream's inverse is the transpose, iScream's matrix is symmetric, and the columns are what the tables give at single bits.
use mathlib.Core.Path.{◌≡◌, refl, sym, ap, ◌∙◌}
use mathlib.Core.List.{List}
use Prim.Native.Nat.{ℕ, ◌^◌, ◌<◌}
use lib.ListN.{get_or}
use lib.Pow.{pow-lt}
use Rattle.bits.specs.Bit.{gather}
use Rattle.bits.specs.Table.{tab}
use Rattle.bits.proofs.Lists.{get_or_tab}
use Rattle.lbox.specs.Lbox
use Rattle.lbox.specs.Columns.{matrix_column, transpose, word}
use Rattle.lbox.specs.Tables.{looked_up, lows, highs}
use Rattle.lbox.proofs.Matrix.{by_bytes}

-- "the inverse being the transpose"
pub scream_transposed : Lbox.scream_inverse ≡ transpose Lbox.scream
unfolding Lbox.scream Lbox.scream_inverse transpose matrix_column
scream_transposed = refl

pub iscream_symmetric : Lbox.iscream ≡ transpose Lbox.iscream
unfolding Lbox.iscream transpose matrix_column
iscream_symmetric = refl

-- "its column i is the tables' value at the word with only bit i set", of a matrix whose products with single bits are its columns. That
-- `lows` and `highs` are the paper's tables, the contracts of the crate `tables` say.
columns : (m : List (List ℕ)) → tab 16 (λ i. word (matrix_column m i)) ≡ tab 16 (λ i. Lbox.times m (2 ^ i))
    → (i : ℕ) → i < 16 → word (matrix_column m i) ≡ looked_up (lows m) (highs m) (2 ^ i)
columns m e i h =
    sym (get_or_tab 16 (λ i. word (matrix_column m i)) i h)
    ∙ ap (λ (l : List ℕ). get_or l i 0) e
    ∙ get_or_tab 16 (λ i. Lbox.times m (2 ^ i)) i h
    ∙ sym (by_bytes m (2 ^ i) (pow-lt h))

-- The three L-boxes: this is tested by computing.
pub scream_columns : (i : ℕ) → i < 16 → word (matrix_column Lbox.scream i) ≡ looked_up (lows Lbox.scream) (highs Lbox.scream) (2 ^ i)
unfolding Lbox.scream Lbox.times Lbox.dot matrix_column word gather
scream_columns = columns Lbox.scream refl

pub scream_inverse_columns : (i : ℕ) → i < 16
    → word (matrix_column Lbox.scream_inverse i) ≡ looked_up (lows Lbox.scream_inverse) (highs Lbox.scream_inverse) (2 ^ i)
unfolding Lbox.scream_inverse Lbox.times Lbox.dot matrix_column word gather
scream_inverse_columns = columns Lbox.scream_inverse refl

pub iscream_columns : (i : ℕ) → i < 16 → word (matrix_column Lbox.iscream i) ≡ looked_up (lows Lbox.iscream) (highs Lbox.iscream) (2 ^ i)
unfolding Lbox.iscream Lbox.times Lbox.dot matrix_column word gather
iscream_columns = columns Lbox.iscream refl
