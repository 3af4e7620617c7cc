-- The opening fields at a book's start: "A book: 01 (8 bytes, book number), 02 (suite), units, close."
use Rattle.suites.specs.Answer.{Answer}
use Rattle.std.specs.Prelude.{Bool, ◌&&◌, List, ℕ, eqb, get_or, take, drop, Ok}
use Rattle.bits.specs.Bytes.{number_of}
use Rattle.suites.specs.declared.refusal.Refusal.TheVariants.{SuiteNotListed, KeyLength, FieldMalformed}
use Rattle.suites.specs.declared.suite.Suite.{Suite}
use Rattle.suites.specs.Suite.{listed}
use Rattle.limits.specs.Tests.{unless}
use Rattle.fields.specs.Field.{has_field, field_value, after_field}

-- fields 01 and 02 are there; else "wrong field tag or length, bytes missing"
unfoldable pub has_opening : List ℕ → Bool
has_opening s = has_field 0x01 8 s && has_field 0x02 2 (after_field 8 s)

-- the book number and the suite that they say
unfoldable pub opening_number : List ℕ → ℕ
opening_number s = number_of (field_value 8 s)

unfoldable pub opening_suite : List ℕ → Suite
opening_suite s = record { cipher = get_or s 14 0; steps = get_or s 15 0 }

-- their bytes, and what follows them
unfoldable pub opening_bytes : List ℕ → List ℕ
opening_bytes s = take 16 s

unfoldable pub after_opening : List ℕ → List ℕ
after_opening s = drop 16 s

-- "14 of 01 and 02; 1"
unfoldable pub opening_tests : List ℕ → Answer
opening_tests s =
    unless (has_opening s) FieldMalformed
    (unless (listed (opening_suite s).cipher (opening_suite s).steps) SuiteNotListed
    (Ok tt))

-- "Check: 2; 14 of 01 and 02; 1", under a key of k bytes
unfoldable pub check_tests : ℕ → List ℕ → Answer
check_tests k s = unless (eqb k 16) KeyLength (opening_tests s)
