-- The columns of a matrix.
use Rattle.std.specs.Prelude.{List, map, ℕ, get_or}
use Rattle.bits.specs.Bit.{gather}
use Rattle.bits.specs.Table.{tab}

-- column i: entry i of each row, row 0 first
unfoldable pub matrix_column : List (List ℕ) → ℕ → List ℕ
matrix_column m i = map (λ r. get_or r i 0) m

-- row i of the transpose is column i
unfoldable pub transpose : List (List ℕ) → List (List ℕ)
transpose m = tab 16 (matrix_column m)

-- a column as a word: bit j is its entry in row j
unfoldable pub word : List ℕ → ℕ
word c = gather 16 (λ j. get_or c j 0)
