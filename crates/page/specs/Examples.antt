-- Rows and a page, as the request shows one, each worked out by hand; proofs/Examples proves them.
use Rattle.std.specs.Prelude.{◌≡◌, List, [], ◌∷◌, ◌++◌, ℕ}
use Prim.Native.String.{String}
use Rattle.decimal.specs.Ascii.{ascii}
use Rattle.rows.specs.Row.{row_of}
use Rattle.page.specs.Page.{row, rows}

-- words, and a line feed
abbrev pub line : String → List ℕ
line s = ascii s ++ 0x0A ∷ []

pub record PageExamples : Type 0 where
  -- "A unit "valve" against a typed "valves" gives `    5   857`."
  pub valve : row (ascii "valves") (ascii "valve") ≡ line "    5   857"
  -- in book order: then a source without runs, then the typed sentence itself
  pub page : rows (ascii "valves") (ascii "valve" ∷ ascii "ab" ∷ ascii "valves" ∷ [])
      ≡ line "    5   857" ++ (line "    2     0" ++ line "    6  1000")
  -- the longest source, and the shortest
  pub widest : row_of 4096 1000 ≡ line " 4096  1000"
  pub least : row_of 1 0 ≡ line "    1     0"
