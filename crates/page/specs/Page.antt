-- The page of a book and a typed sentence: its bytes, what `page` answers, and what it leaves in the buffer. In the definitions of a frame, o are
-- the bytes of the book's opening fields, n is the running number and s the bytes of the book from the place on.
use Rattle.suites.specs.Answer.{Answer}
use Rattle.suites.specs.declared.refusal.Refusal.{Refusal}
use Rattle.std.specs.Prelude.{List, [], ◌∷◌, ◌++◌, ℕ, zero, suc, leb, length, Result, Ok, Err}
use Rattle.suites.specs.declared.refusal.Refusal.TheVariants.{OutputTooShort}
use Rattle.suites.specs.Refusal.{number}
use Rattle.suites.specs.Told.{Told, gives, refuses}
use Rattle.limits.specs.Tests.{unless}
use Rattle.sealing.specs.Seal.{written}
use Rattle.fields.specs.Field.{field_length}
use Rattle.fields.specs.Kind.{Kind}
use Rattle.fields.specs.Unit.{source_of}
use Rattle.kinds.specs.Kind.{kind_of, book_kind}
use Rattle.parser.specs.Frame.{after_header, after_unit}
use Rattle.opening_fields.specs.Opening.{opening_bytes, after_opening}
use Rattle.seals.specs.Seal.{unit_opened}
use Rattle.checker.specs.Check.{check_answer, CheckAnswer}
use Rattle.score.specs.Score.{score}
use Rattle.rows.specs.Row.{row_of}

-- the row of a source, compared with the typed sentence: "source length right-aligned in 5 columns, two blanks, score in 4, a line feed"
unfoldable pub row : List ℕ → List ℕ → List ℕ
row typed source = row_of (length source) (score source typed)

-- "one row a unit, in book order"
unfoldable pub rows : List ℕ → List (List ℕ) → List ℕ
rows typed [] = []
rows typed (source ∷ sources) = row typed source ++ rows typed sources

-- the length of the ciphertext of the unit there, as its field 11 states it
abbrev pub ciphertext_length : Kind → List ℕ → ℕ
ciphertext_length kind s = field_length (after_header kind s)

-- the source of the unit there, and the sources of so many units from there on
unfoldable pub source_at : Kind → List ℕ → List ℕ → ℕ → List ℕ → List ℕ
source_at kind key o n s = source_of (unit_opened kind key o n (ciphertext_length kind s) s)

unfoldable pub sources_from : Kind → List ℕ → List ℕ → ℕ → ℕ → List ℕ → List (List ℕ)
sources_from kind key o zero n s = []
sources_from kind key o (suc count) n s =
    source_at kind key o n s ∷ sources_from kind key o count (suc n) (after_unit kind (ciphertext_length kind s) s)

-- the page of the book s, by what check answers: the rows of the units that it counts, none where it refuses
unfoldable pub page_by : CheckAnswer → List ℕ → List ℕ → List ℕ → List ℕ
page_by (Ok t) key s typed = rows typed (sources_from (kind_of (book_kind s)) key (opening_bytes s) t.units 0 (after_opening s))
page_by (Err why) key s typed = []

unfoldable pub page_bytes : List ℕ → List ℕ → List ℕ → List ℕ
page_bytes key s typed = page_by (check_answer key s) key s typed

-- "A book that checking refuses gives that refusal, then a short page buffer gives 7": a page of so many bytes, in a buffer of r
abbrev pub outcome_by : CheckAnswer → ℕ → ℕ → Answer
outcome_by (Ok t) long r = unless (leb long r) OutputTooShort (Ok tt)
outcome_by (Err why) long r = Err why

unfoldable pub page_outcome : List ℕ → List ℕ → List ℕ → ℕ → Answer
page_outcome key s typed r = outcome_by (check_answer key s) (length (page_bytes key s typed)) r

-- the page's length, or the refusal
abbrev pub PageAnswer : Type 0
PageAnswer = Result ℕ Refusal

-- "its length in bytes is returned"
abbrev pub page_report : Answer → ℕ → PageAnswer
page_report (Ok tt) long = Ok long
page_report (Err why) long = Err why

abbrev pub page_told : PageAnswer → Told
page_told (Ok long) = gives (long ∷ [])
page_told (Err why) = refuses (number why)

unfoldable pub page_answer : List ℕ → List ℕ → List ℕ → List ℕ → PageAnswer
page_answer key s typed page = page_report (page_outcome key s typed (length page)) (length (page_bytes key s typed))

-- "the result stands at its buffer's start, the other bytes stay"; "neither [refusal] writes a byte"
unfoldable pub page_buffer : List ℕ → List ℕ → List ℕ → List ℕ → List ℕ
page_buffer key s typed page = written (page_outcome key s typed (length page)) (page_bytes key s typed) page
