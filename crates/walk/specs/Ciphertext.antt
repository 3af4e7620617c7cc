-- "Given k, a second call hands back unit k's ciphertext as a part of the book buffer itself, unopened, or, with no number, an empty part where
-- the opening fields, the walk, or the framing, number or languages of k, would be refused or there is no unit k."
use Rattle.suites.specs.Answer.{Answer}
use Rattle.parser.specs.FrameAnswer.{FrameAnswer}
use Rattle.parser.specs.declared.frame.Frame.TheVariants.{Close, Unit}
use Rattle.std.specs.Prelude.{◌≡◌, List, ℕ, ◌+◌, take, drop, Ok, Err}
use Rattle.std.specs.Borrow.{Bor}
use Rattle.fields.specs.Kind.{Kind}
use Rattle.kinds.specs.Kind.{kind_of, book_kind}
use Rattle.kinds.specs.Lengths.{ciphertext_at}
use Rattle.parser.specs.Frame.{frame_at}
use Rattle.opening_fields.specs.Opening.{after_opening, opening_tests}
use Rattle.walk.specs.declared.Place.{Place}
use Rattle.walk.specs.declared.ciphertext.Part.{Part}
use Rattle.walk.specs.Walk.{walk_to}

abbrev pub empty_part : Part
empty_part = record { at = 0; len = 0 }

-- of a frame that begins at a place: the value of a unit's field 11
abbrev pub part_at : Kind → ℕ → FrameAnswer → Part
part_at kind at (Ok (Unit m)) = record { at = at + ciphertext_at kind; len = m }
part_at kind at (Ok Close) = empty_part
part_at kind at (Err why) = empty_part

-- of the frame at a place behind the opening fields, which are 16 bytes of the book s
unfoldable pub part_from : Kind → Place → List ℕ → Part
part_from kind p s = part_at kind (16 + p.at) (frame_at kind p.number (drop p.at (after_opening s)))

abbrev pub part_unless : Answer → Part → Part
part_unless (Ok tt) part = part
part_unless (Err why) part = empty_part

-- where the ciphertext of unit k stands in a book s of a kind
unfoldable pub ciphertext_place_of : Kind → ℕ → List ℕ → Part
ciphertext_place_of kind k s = part_unless (opening_tests s) (part_from kind (walk_to kind k (after_opening s)) s)

-- and in a book s, whose bytes say its kind
unfoldable pub ciphertext_place : ℕ → List ℕ → Part
ciphertext_place k s = ciphertext_place_of (kind_of (book_kind s)) k s

-- "as a part of the book buffer itself": the bytes that stand there, and no copy of them. A reference points to a byte of a block of memory, and
-- the part to the book's own bytes, from the place on.
pub record IsPart (part book : Bor (List ℕ)) (p : Part) : Type 0 where
  pub bytes : part.now ≡ take p.len (drop p.at book.now)
  pub block : part.ref_ptr.0 ≡ book.ref_ptr.0
  pub offset : part.ref_ptr.1 ≡ book.ref_ptr.1 + p.at

-- the part of the book that stands there
unfoldable pub ciphertext_part : ℕ → List ℕ → List ℕ
ciphertext_part k s = take (ciphertext_place k s).len (drop (ciphertext_place k s).at s)
