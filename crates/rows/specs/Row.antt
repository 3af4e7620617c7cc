-- A row of a page: "source length right-aligned in 5 columns, two blanks, score in 4, a line feed".
use Rattle.std.specs.Prelude.{List, [], ◌∷◌, ◌++◌, ℕ, ◌-◌, length, replicate}
use Rattle.decimal.specs.Decimal.{digits}

-- "right-aligned in 5 columns": blanks, then the number in decimal
unfoldable pub right_aligned : ℕ → ℕ → List ℕ
right_aligned columns n = replicate (columns - length (digits n)) 0x20 ++ digits n

-- the row of a source of `len` bytes with this score
unfoldable pub row_of : ℕ → ℕ → List ℕ
row_of len score = right_aligned 5 len ++ (0x20 ∷ 0x20 ∷ (right_aligned 4 score ++ 0x0A ∷ []))
