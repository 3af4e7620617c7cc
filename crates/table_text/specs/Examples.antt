-- Lines of the printed tables, each copied from the paper by hand; proofs/Examples proves them.
use Rattle.std.specs.Prelude.{◌≡◌, List, [], ◌∷◌, ◌++◌, ℕ, length}
use Prim.Native.String.{String}
use Rattle.decimal.specs.Ascii.{ascii}
use Rattle.printed.specs.Printed.{tables, table}
use Rattle.table_text.specs.Text.{line_text, table_text, tables_text}

-- words, and a line feed
abbrev pub line : String → List ℕ
line s = ascii s ++ (0x0A ∷ [])

pub record TextExamples : Type 0 where
  -- the first line of all, which is of Table 8, and the last, of Table 16
  pub first : line_text (table 0) 0 ≡ line "00 38 52 6A 7B 43 29 11 96 AE C4 FC ED D5 BF 87"
  pub last : line_text (table 14) 15 ≡ line "DB C2 BB 11 4B 50 6B E6 9C 25 FA 7D 82 3A A6 05"
  -- the row 50 of Table 6, where the paper's text has `DO`
  pub read : line_text (table 12) 5 ≡ line "9F 31 DE E3 49 D0 59 46 54 EF 2E 3C BB 21 92 B5"
  -- 16 lines of 48 bytes, and 15 tables of these without a line between
  pub long : (t : List ℕ) → length (table_text t) ≡ 768
  pub all : length (tables_text tables) ≡ 11520
