-- A book's bytes.
use Rattle.std.specs.Prelude.{◌≡◌, true, List, [], ◌∷◌, ◌++◌, ℕ, suc, ◌+◌, ◌^◌, ◌≤◌, ◌<◌, length, take, drop}
use Rattle.bits.specs.Bytes.{Bytes}
use Rattle.suites.specs.declared.suite.Suite.{Suite}
use Rattle.suites.specs.Suite.{listed}
use Rattle.fields.specs.Each.{EachFrom}
use Rattle.fields.specs.Field.{field}
use Rattle.fields.specs.Kind.{Kind}
use Rattle.kinds.specs.Lengths.{unit_length, close_length}
use Rattle.format.specs.Sealings.{opening_fields, unit_header, close_header, unit_sealing, close_sealing, sealed_bytes}
use Rattle.fields.specs.Unit.{BookUnit, Allowed, details_of, unit_text}

-- "11 (ciphertext of 3 to 8,194 bytes), 12 (tag, 16)"; "fields 11 and 12 hold its ciphertext (none at a close) and its tag": of sealed
-- bytes whose ciphertext has m
unfoldable pub sealed_fields : ℕ → List ℕ → List ℕ
sealed_fields m s = field 0x11 (take m s) ++ field 0x12 (drop m s)

-- unit n of a book under a suite, a key and a book number: "A unit: 10, 11, 12", with the kind's tag in place of 10
unfoldable pub unit_bytes : Kind → Suite → List ℕ → ℕ → ℕ → BookUnit → List ℕ
unit_bytes kind suite key number n u =
    unit_header kind n (details_of kind u)
    ++ sealed_fields (length (unit_text u.source u.target)) (sealed_bytes suite key (unit_sealing kind suite number n u))

-- its close after n units: "Close: 20 (2 bytes, unit count), 12", likewise
unfoldable pub close_bytes : Kind → Suite → List ℕ → ℕ → ℕ → List ℕ
close_bytes kind suite key number n = close_header kind n ++ field 0x12 (sealed_bytes suite key (close_sealing kind suite number n))

-- its units from number n on
unfoldable pub units_bytes : Kind → Suite → List ℕ → ℕ → ℕ → List BookUnit → List ℕ
units_bytes kind suite key number n [] = []
units_bytes kind suite key number n (u ∷ us) = unit_bytes kind suite key number n u ++ units_bytes kind suite key number (suc n) us

-- the whole book: "A book: 01 (8 bytes, book number), 02 (suite), units, close."
unfoldable pub book_bytes : Kind → Suite → List ℕ → ℕ → List BookUnit → List ℕ
book_bytes kind suite key number us =
    opening_fields suite number ++ (units_bytes kind suite key number 0 us ++ close_bytes kind suite key number (length us))

-- what a book of a kind can be made of
pub record Bookable (kind : Kind) (suite : Suite) (key : List ℕ) (number : ℕ) (us : List BookUnit) : Type 0 where
  pub listed_suite : listed suite.cipher suite.steps ≡ true
  pub key_long : length key ≡ 16
  pub key_bytes : Bytes key
  pub number_fits : number < 2 ^ 64
  pub units : EachFrom (Allowed kind) 0 us
  pub few : length us ≤ kind.unit_limit

-- "A book takes 16 + the sum of (33 + s + t) + 24 bytes", of kind 14 16 + the sum of (35 + s + t) + 26 (length_book_bytes)
unfoldable pub book_length : Kind → List BookUnit → ℕ
book_length kind [] = 16 + close_length kind
book_length kind (u ∷ us) = unit_length kind (length u.source) (length u.target) + book_length kind us
