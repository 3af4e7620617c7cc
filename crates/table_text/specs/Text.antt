-- How the tables are printed.
use mathlib.Core.List.{List, [], ◌∷◌, ◌++◌, map, flatten}
use Rattle.std.specs.Prelude.{ℕ, ◌+◌, ◌*◌, ◌/◌, ◌%◌, get_or}
use Rattle.bits.specs.Table.{tab}
use Rattle.decimal.specs.Ascii.{ascii}

-- "hexadecimal", "capital letters"
unfoldable pub hex_digit : ℕ → ℕ
hex_digit d = get_or (ascii "0123456789ABCDEF") d 0

-- "two-digit"
abbrev pub two_digits : ℕ → List ℕ
two_digits b = hex_digit (b / 16) ∷ hex_digit (b % 16) ∷ []

-- "one blank between"
abbrev pub between : List (List ℕ) → List ℕ
between [] = []
between (x ∷ []) = x
between (x ∷ y ∷ l) = x ++ (0x20 ∷ between (y ∷ l))

-- "16 two-digit hexadecimal entries", from the entry 16 r on; a line feed ends the line
abbrev pub line_text : List ℕ → ℕ → List ℕ
line_text t r = between (tab 16 (λ c. two_digits (get_or t (16 * r + c) 0))) ++ (0x0A ∷ [])

-- "print each as 16 lines"
unfoldable pub table_text : List ℕ → List ℕ
table_text t = flatten (tab 16 (line_text t))

-- "no line between tables"
abbrev pub tables_text : List (List ℕ) → List ℕ
tables_text l = flatten (map table_text l)
