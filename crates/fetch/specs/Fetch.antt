-- What `fetch` answers, and what it leaves in the output. "Fetch k walks units 0 to k−1 without their seals, opens unit k, writes source and
-- target to the output, returns s and t." "Fetch: the same [as check], without 8 and 12 for units before k, then 7." In the definitions of a
-- frame, o are the bytes of the book's opening fields, n is the running number, s the bytes of the book from the place on, and r the room
-- in the output.
use Rattle.suites.specs.Answer.{Answer}
use Rattle.suites.specs.declared.refusal.Refusal.{Refusal}
use Rattle.fetch.specs.declared.unit.Lengths.{Lengths}
use Rattle.fetch.specs.declared.unit.Fetched.{Fetched}
use Rattle.parser.specs.FrameAnswer.{FrameAnswer}
use Rattle.parser.specs.declared.frame.Frame.TheVariants.{Close, Unit}
use Rattle.std.specs.Prelude.{List, [], ◌∷◌, ◌++◌, ℕ, ◌+◌, leb, length, drop, Result, Ok, Err}
use Rattle.suites.specs.declared.refusal.Refusal.TheVariants.{OutputTooShort, SegmentLength, NoSuchUnit}
use Rattle.suites.specs.Refusal.{number}
use Rattle.suites.specs.Told.{Told, gives, refuses}
use Rattle.limits.specs.Tests.{unless}
use Rattle.sealing.specs.Seal.{written}
use Rattle.fields.specs.Kind.{Kind}
use Rattle.kinds.specs.Kind.{kind_of, book_kind}
use Rattle.kinds.specs.Lengths.{frame_length}
use Rattle.fields.specs.Unit.{source_length, source_of, target_of, text_in_range}
use Rattle.parser.specs.Frame.{frame_at}
use Rattle.opening_fields.specs.Opening.{opening_bytes, after_opening, check_tests}
use Rattle.seals.specs.Seal.{unit_opened, unit_seal_tests, close_seal_tests}
use Rattle.walk.specs.declared.Place.{Place}
use Rattle.walk.specs.Walk.{walk_to}

-- tests, and those after them
abbrev pub and_then : Answer → Answer → Answer
and_then (Ok tt) rest = rest
and_then (Err why) rest = Err why

-- "writes source and target to the output": those of a unit's text
abbrev pub handed_out : List ℕ → List ℕ
handed_out text = source_of text ++ target_of text

-- "then 7", for an output of r bytes
unfoldable pub room_test : List ℕ → ℕ → Answer
room_test text r = unless (leb (length (handed_out text)) r) OutputTooShort (Ok tt)

-- of a text whose tag agrees: "12", "then 7"
unfoldable pub text_outcome : List ℕ → ℕ → Answer
text_outcome text r = unless (text_in_range (length text) (source_length text)) SegmentLength (room_test text r)

-- of unit n, where it is unit k and its frame was tested: its seal and its range as in check, "then 7"
unfoldable pub unit_outcome : Kind → List ℕ → List ℕ → ℕ → ℕ → List ℕ → ℕ → Answer
unit_outcome kind key o n m s r = and_then (unit_seal_tests kind key o n m s) (room_test (unit_opened kind key o n m s) r)

-- "Meeting the close it verifies it and the end of the book, then says 16."
unfoldable pub close_met : Kind → List ℕ → List ℕ → ℕ → List ℕ → Answer
close_met kind key o n s = and_then (close_seal_tests kind key o n s) (Err NoSuchUnit)

-- by the frame where the walk ends
abbrev pub frame_outcome : FrameAnswer → (ℕ → Answer) → Answer → Answer
frame_outcome (Ok (Unit m)) unit close = unit m
frame_outcome (Ok Close) unit close = close
frame_outcome (Err why) unit close = Err why

abbrev pub frame_text : FrameAnswer → (ℕ → List ℕ) → List ℕ
frame_text (Ok (Unit m)) text = text m
frame_text (Ok Close) text = []
frame_text (Err why) text = []

-- where the walk ends with the number n before the bytes s: the outcome, and the text of the unit that stands there
unfoldable pub outcome_here : Kind → List ℕ → List ℕ → ℕ → List ℕ → ℕ → Answer
outcome_here kind key o n s r = frame_outcome (frame_at kind n s) (λ (m : ℕ). unit_outcome kind key o n m s r) (close_met kind key o n s)

unfoldable pub text_at : Kind → List ℕ → List ℕ → ℕ → List ℕ → List ℕ
text_at kind key o n s = frame_text (frame_at kind n s) (λ (m : ℕ). unit_opened kind key o n m s)

-- the same at a place behind the opening fields of the book s
abbrev pub outcome_from : Kind → List ℕ → Place → List ℕ → ℕ → Answer
outcome_from kind key p s r = outcome_here kind key (opening_bytes s) p.number (drop p.at (after_opening s)) r

abbrev pub text_from : Kind → List ℕ → Place → List ℕ → List ℕ
text_from kind key p s = text_at kind key (opening_bytes s) p.number (drop p.at (after_opening s))

-- of a book s of a kind: the tests of check before its frames, then those at the place where the walk to unit k ends
unfoldable pub fetch_outcome : Kind → List ℕ → List ℕ → ℕ → ℕ → Answer
fetch_outcome kind key s k r = and_then (check_tests (length key) s) (outcome_from kind key (walk_to kind k (after_opening s)) s r)

unfoldable pub fetch_text : Kind → List ℕ → List ℕ → ℕ → List ℕ
fetch_text kind key s k = text_from kind key (walk_to kind k (after_opening s)) s

-- the lengths of source and target, or the refusal
abbrev pub FetchAnswer : Type 0
FetchAnswer = Result Lengths Refusal

abbrev pub fetched_lengths : ℕ → ℕ → FetchAnswer
fetched_lengths s t = Ok (record { source = s; target = t })

-- "returns s and t"
abbrev pub fetch_report : Answer → List ℕ → FetchAnswer
fetch_report (Ok tt) text = fetched_lengths (length (source_of text)) (length (target_of text))
fetch_report (Err why) text = Err why

abbrev pub fetch_told : FetchAnswer → Told
fetch_told (Ok l) = gives (l.source ∷ l.target ∷ [])
fetch_told (Err why) = refuses (number why)

unfoldable pub fetch_answer_of : Kind → List ℕ → List ℕ → ℕ → List ℕ → FetchAnswer
fetch_answer_of kind key s k out = fetch_report (fetch_outcome kind key s k (length out)) (fetch_text kind key s k)

unfoldable pub fetch_buffer_of : Kind → List ℕ → List ℕ → ℕ → List ℕ → List ℕ
fetch_buffer_of kind key s k out = written (fetch_outcome kind key s k (length out)) (handed_out (fetch_text kind key s k)) out

-- of a book s, whose bytes say its kind
unfoldable pub fetch_answer : List ℕ → List ℕ → ℕ → List ℕ → FetchAnswer
fetch_answer key s k out = fetch_answer_of (kind_of (book_kind s)) key s k out

unfoldable pub fetch_buffer : List ℕ → List ℕ → ℕ → List ℕ → List ℕ
fetch_buffer key s k out = fetch_buffer_of (kind_of (book_kind s)) key s k out

-- Besides the scope, for a caller that goes from one unit to the next: unit n, where its header stands at byte `at` of the book s. That of unit
-- 0 stands behind the opening fields. The refusals are those of fetch, without those of the walk.
unfoldable pub placed_outcome : Kind → List ℕ → List ℕ → ℕ → ℕ → ℕ → Answer
placed_outcome kind key s n at r = and_then (check_tests (length key) s) (outcome_here kind key (opening_bytes s) n (drop at s) r)

unfoldable pub placed_text : Kind → List ℕ → List ℕ → ℕ → ℕ → List ℕ
placed_text kind key s n at = text_at kind key (opening_bytes s) n (drop at s)

-- where the next unit or the close begins: behind the unit's bytes
abbrev pub next_of : Kind → ℕ → FrameAnswer → ℕ
next_of kind at (Ok (Unit m)) = at + frame_length kind m
next_of kind at (Ok Close) = 0
next_of kind at (Err why) = 0

-- the same, and where the next unit or the close begins
abbrev pub PlacedAnswer : Type 0
PlacedAnswer = Result Fetched Refusal

abbrev pub fetched_placed : ℕ → ℕ → ℕ → PlacedAnswer
fetched_placed s t next = Ok (record { lengths = record { source = s; target = t }; next = next })

-- s and t, and that place
abbrev pub placed_report : Answer → List ℕ → ℕ → PlacedAnswer
placed_report (Ok tt) text next = fetched_placed (length (source_of text)) (length (target_of text)) next
placed_report (Err why) text next = Err why

abbrev pub placed_told : PlacedAnswer → Told
placed_told (Ok f) = gives (f.lengths.source ∷ f.lengths.target ∷ f.next ∷ [])
placed_told (Err why) = refuses (number why)

unfoldable pub placed_answer_of : Kind → List ℕ → List ℕ → ℕ → ℕ → List ℕ → PlacedAnswer
placed_answer_of kind key s n at out =
    placed_report (placed_outcome kind key s n at (length out)) (placed_text kind key s n at) (next_of kind at (frame_at kind n (drop at s)))

unfoldable pub placed_buffer_of : Kind → List ℕ → List ℕ → ℕ → ℕ → List ℕ → List ℕ
placed_buffer_of kind key s n at out = written (placed_outcome kind key s n at (length out)) (handed_out (placed_text kind key s n at)) out

unfoldable pub placed_answer : List ℕ → List ℕ → ℕ → ℕ → List ℕ → PlacedAnswer
placed_answer key s n at out = placed_answer_of (kind_of (book_kind s)) key s n at out

unfoldable pub placed_buffer : List ℕ → List ℕ → ℕ → ℕ → List ℕ → List ℕ
placed_buffer key s n at out = placed_buffer_of (kind_of (book_kind s)) key s n at out
