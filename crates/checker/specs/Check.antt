-- What `check` answers. "Checking takes key and book, writes nothing, returns unit count and call total. It reads in byte order." In the
-- definitions of a frame, o are the bytes of the book's opening fields, n is the running number and s the bytes of the book from the place on.
use Rattle.suites.specs.Answer.{Answer}
use Rattle.suites.specs.declared.refusal.Refusal.{Refusal}
use Rattle.checker.specs.declared.check.Totals.{Totals}
use Rattle.parser.specs.FrameAnswer.{FrameAnswer}
use Rattle.parser.specs.declared.frame.Frame.TheVariants.{Close, Unit}
use Rattle.std.specs.Prelude.{List, [], ◌∷◌, ℕ, zero, suc, ◌+◌, length, Result, Ok, Err}
use Rattle.suites.specs.declared.refusal.Refusal.TheVariants.{TooManyUnits}
use Rattle.suites.specs.Refusal.{number}
use Rattle.suites.specs.Told.{Told, gives, refuses}
use Rattle.fields.specs.Kind.{Kind}
use Rattle.kinds.specs.Kind.{kind_of, book_kind}
use Rattle.kinds.specs.Lengths.{unit_calls, close_calls}
use Rattle.parser.specs.Frame.{most_units, after_unit, frame_of, frame_at}
use Rattle.opening_fields.specs.Opening.{opening_bytes, after_opening, check_tests}
use Rattle.seals.specs.Seal.{unit_seal_tests, close_seal_tests}

-- the unit count and the call total, or the refusal
abbrev pub CheckAnswer : Type 0
CheckAnswer = Result Totals Refusal

abbrev pub accepted : ℕ → ℕ → CheckAnswer
accepted n t = Ok (record { units = n; calls = t })

-- "returns unit count and call total"
abbrev pub check_told : CheckAnswer → Told
check_told (Ok t) = gives (t.units ∷ t.calls ∷ [])
check_told (Err why) = refuses (number why)

-- a frame whose seal was tested too, or the refusal
abbrev pub with_seal : FrameAnswer → (ℕ → Answer) → Answer → FrameAnswer
with_seal (Ok (Unit m)) unit close = frame_of (unit m) (Ok (Unit m))
with_seal (Ok Close) unit close = frame_of close (Ok Close)
with_seal (Err why) unit close = Err why

-- what stands at s, with its seal
unfoldable pub checked_at : Kind → List ℕ → List ℕ → ℕ → List ℕ → FrameAnswer
checked_at kind key o n s = with_seal (frame_at kind n s) (λ (m : ℕ). unit_seal_tests kind key o n m s) (close_seal_tests kind key o n s)

-- by what a frame is: a unit, a close, or a refusal
abbrev pub by_frame : FrameAnswer → (ℕ → CheckAnswer) → CheckAnswer → CheckAnswer
by_frame (Ok (Unit m)) unit close = unit m
by_frame (Ok Close) unit close = close
by_frame (Err why) unit close = Err why

-- from a place on: one frame after the other, where n units and `total` cipher calls have been counted. `left` bounds the frames that are
-- read. `check_answer` has one more than `most_units`, which is enough: no unit has the number `most_units`, so the last frame is a close or a
-- refusal, and `left` never comes to 0.
unfoldable pub check_from : Kind → List ℕ → List ℕ → ℕ → ℕ → ℕ → List ℕ → CheckAnswer
check_from kind key o zero n total s = Err TooManyUnits
check_from kind key o (suc left) n total s =
    by_frame (checked_at kind key o n s)
    (λ (m : ℕ). check_from kind key o left (suc n) (total + unit_calls kind m) (after_unit kind m s))
    (accepted n (total + close_calls kind))

-- an answer whose tests are done, or their refusal
abbrev pub after_tests : Answer → CheckAnswer → CheckAnswer
after_tests (Ok tt) answer = answer
after_tests (Err why) answer = Err why

-- the answer of check, of a book s of a kind: the tests before its frames, then the frames behind the opening fields
unfoldable pub check_answer_of : Kind → List ℕ → List ℕ → CheckAnswer
check_answer_of kind key s =
    after_tests (check_tests (length key) s) (check_from kind key (opening_bytes s) (suc most_units) 0 0 (after_opening s))

-- and of a book s, whose bytes say its kind
unfoldable pub check_answer : List ℕ → List ℕ → CheckAnswer
check_answer key s = check_answer_of (kind_of (book_kind s)) key s
