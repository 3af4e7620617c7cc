-- The seal of one frame of a book: its text, whether its tag agrees, and its refusals. In the definitions of a frame, o are the bytes of the
-- book's opening fields, n is the running number and s the bytes of the book from the place on.
use Rattle.suites.specs.Answer.{Answer}
use Rattle.std.specs.Prelude.{Bool, List, ◌++◌, ℕ, eqb, length, take, Ok}
use Rattle.suites.specs.declared.refusal.Refusal.TheVariants.{TagDiffers, SegmentLength, FieldMalformed}
use Rattle.limits.specs.Tests.{unless}
use Rattle.opening.specs.Open.{opened, agrees}
use Rattle.fields.specs.Kind.{Kind}
use Rattle.fields.specs.Unit.{source_length, text_in_range}
use Rattle.kinds.specs.Lengths.{header_length, close_header_length}
use Rattle.format.specs.Sealings.{nonce_of}
use Rattle.parser.specs.Frame.{frame_sealed, close_sealed, after_close}
use Rattle.opening_fields.specs.Opening.{opening_number, opening_suite}

-- "The header sealed along is fields 01, 02 and 10 (25 bytes) or 20 (21 bytes)", with the kind's tags and widths: with the unit there, and with
-- the close, each as its bytes stand in the book. That they are those that the writer seals along is a law (unit_along_lem, close_along_lem).
unfoldable pub unit_along : Kind → List ℕ → List ℕ → List ℕ
unit_along kind o s = o ++ take (header_length kind) s

unfoldable pub close_along : Kind → List ℕ → List ℕ → List ℕ
close_along kind o s = o ++ take (close_header_length kind) s

-- the text of the unit there, whose ciphertext has m bytes, and whether its tag agrees
unfoldable pub unit_opened : Kind → List ℕ → List ℕ → ℕ → ℕ → List ℕ → List ℕ
unit_opened kind key o n m s =
    opened (opening_suite o).cipher (opening_suite o).steps key (nonce_of (opening_number o) n) (unit_along kind o s) (frame_sealed kind m s)

unfoldable pub unit_agrees : Kind → List ℕ → List ℕ → ℕ → ℕ → List ℕ → Bool
unit_agrees kind key o n m s =
    agrees (opening_suite o).cipher (opening_suite o).steps key (nonce_of (opening_number o) n) (unit_along kind o s) (frame_sealed kind m s)

-- whether the close's tag agrees
unfoldable pub close_agrees : Kind → List ℕ → List ℕ → ℕ → List ℕ → Bool
close_agrees kind key o n s =
    agrees (opening_suite o).cipher (opening_suite o).steps key (nonce_of (opening_number o) n) (close_along kind o s) (close_sealed kind s)

-- of a unit whose frame was tested: "8, 12"
unfoldable pub unit_seal_tests : Kind → List ℕ → List ℕ → ℕ → ℕ → List ℕ → Answer
unit_seal_tests kind key o n m s =
    unless (unit_agrees kind key o n m s) TagDiffers
    (unless (text_in_range m (source_length (unit_opened kind key o n m s))) SegmentLength
    (Ok tt))

-- of a close whose frame was tested: "8, then 14 for bytes left over"
unfoldable pub close_seal_tests : Kind → List ℕ → List ℕ → ℕ → List ℕ → Answer
close_seal_tests kind key o n s =
    unless (close_agrees kind key o n s) TagDiffers
    (unless (eqb (length (after_close kind s)) 0) FieldMalformed
    (Ok tt))
