-- What stands at a place of a book: a unit's fields, a close's fields, or neither. A frame is the scope's unit or close as it stands there,
-- its seal unopened. In each definition n is the running number and s the bytes of the book from the place on.
use Rattle.suites.specs.Answer.{Answer}
use Rattle.parser.specs.FrameAnswer.{FrameAnswer}
use Rattle.parser.specs.declared.frame.Frame.TheVariants.{Close, Unit}
use Rattle.std.specs.Prelude.{◌≡◌, Bool, ◌&&◌, cond, List, ◌++◌, ℕ, ◌+◌, ◌-◌, ◌^◌, min, eqb, leb, ltb, get_or, take, drop, Option, Some, None, Ok, Err}
use Rattle.bits.specs.Bytes.{number_of}
use Rattle.suites.specs.declared.refusal.Refusal.TheVariants.{LanguagesNotAllowed, TooManyUnits, FieldMalformed, NumberOutOfOrder}
use Rattle.limits.specs.Tests.{unless}
use Rattle.fields.specs.Field.{field_length, has_field, field_value, after_field}
use Rattle.fields.specs.Kind.{Kind, WellFormed}
use Rattle.fields.specs.Languages.{pair_allowed}
use Rattle.fields.specs.Unit.{details_length}
use Rattle.kinds.specs.Lengths.{header_bytes}

-- "65,535 units already: 13", which "moves to the new limit, also for old books where it cannot occur": 16,777,215, in every book that is
-- read. How many a book of a kind can have is the kind's own limit
abbrev pub most_units : ℕ
most_units = 16777215

-- "11 (ciphertext of 3 to 8,194 bytes)"
abbrev pub ciphertext_allowed : ℕ → Bool
ciphertext_allowed m = leb 3 m && leb m 8194

-- the number that a unit's header or a close states, in as many bytes as the kind has: "an old number means the same number after widening"
unfoldable pub frame_number : Kind → List ℕ → ℕ
frame_number kind s = number_of (take kind.number_bytes (drop 3 s))

-- what a unit's header says besides its number: the codes of source and target language
unfoldable pub frame_details : Kind → List ℕ → List ℕ
frame_details kind s = take (details_length kind) (drop (3 + kind.number_bytes) s)

unfoldable pub frame_from : Kind → List ℕ → List ℕ
frame_from kind s = take kind.code_bytes (frame_details kind s)

unfoldable pub frame_to : Kind → List ℕ → List ℕ
frame_to kind s = take kind.code_bytes (drop kind.code_bytes (frame_details kind s))

-- what follows a unit's header: its fields 11 and 12
unfoldable pub after_header : Kind → List ℕ → List ℕ
after_header kind s = after_field (header_bytes kind) s

-- "11 (ciphertext of 3 to 8,194 bytes), 12 (tag, 16)" stand at a string's start; else "wrong field tag or length, bytes missing"
unfoldable pub has_sealed : List ℕ → Bool
has_sealed r = ciphertext_allowed (field_length r) && (has_field 0x11 (field_length r) r && has_field 0x12 16 (after_field (field_length r) r))

-- of a unit whose ciphertext has m bytes: "Sealed bytes are ciphertext, then tag", and what follows the unit
unfoldable pub frame_sealed : Kind → ℕ → List ℕ → List ℕ
frame_sealed kind m s = field_value m (after_header kind s) ++ field_value 16 (after_field m (after_header kind s))

unfoldable pub after_unit : Kind → ℕ → List ℕ → List ℕ
after_unit kind m s = after_field 16 (after_field m (after_header kind s))

-- of a close: its sealed bytes, which are the tag alone, and what follows it
unfoldable pub close_sealed : Kind → List ℕ → List ℕ
close_sealed kind s = field_value 16 (after_field kind.number_bytes s)

unfoldable pub after_close : Kind → List ℕ → List ℕ
after_close kind s = after_field 16 (after_field kind.number_bytes s)

-- "each unit: 14 of its header, 13, 15, 11, 14 of the rest"
unfoldable pub unit_tests : Kind → ℕ → List ℕ → Answer
unit_tests kind n s =
    unless (has_field kind.header_tag (header_bytes kind) s) FieldMalformed
    (unless (ltb n most_units) TooManyUnits
    (unless (eqb (frame_number kind s) n) NumberOutOfOrder
    (unless (pair_allowed (frame_from kind s) (frame_to kind s)) LanguagesNotAllowed
    (unless (has_sealed (after_header kind s)) FieldMalformed
    (Ok tt)))))

-- "close: 14 of both its fields, 15"
unfoldable pub close_tests : Kind → ℕ → List ℕ → Answer
close_tests kind n s =
    unless (has_field kind.close_tag kind.number_bytes s && has_field 0x12 16 (after_field kind.number_bytes s)) FieldMalformed
    (unless (eqb (frame_number kind s) n) NumberOutOfOrder
    (Ok tt))

-- a frame whose tests are done, or the refusal
abbrev pub frame_of : Answer → FrameAnswer → FrameAnswer
frame_of (Ok tt) frame = frame
frame_of (Err why) frame = Err why

-- the close's tag stands there
unfoldable pub begins_close : Kind → List ℕ → Bool
begins_close kind s = eqb (get_or s 0 0) kind.close_tag

-- what begins with the close's tag is read as a close, anything else as a unit
unfoldable pub frame_at : Kind → ℕ → List ℕ → FrameAnswer
frame_at kind n s =
    cond (begins_close kind s)
    (frame_of (close_tests kind n s) (Ok Close))
    (frame_of (unit_tests kind n s) (Ok (Unit (field_length (after_header kind s)))))

-- how many bytes the ciphertext of a unit has; nothing else has one
abbrev pub ciphertext_of : FrameAnswer → Option ℕ
ciphertext_of (Ok (Unit m)) = Some m
ciphertext_of (Ok Close) = None
ciphertext_of (Err why) = None

-- a kind that can be read: its limit is the reader's or the largest number that it has room for, whichever is smaller
pub record Readable (kind : Kind) : Type 0 where
  pub well_formed : WellFormed kind
  pub limit : kind.unit_limit ≡ min most_units (256 ^ kind.number_bytes - 1)
