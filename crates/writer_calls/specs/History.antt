-- Lists of calls on a book: "The writer takes an add or a close and is handed back as it now is." Each step is by the definitions in the
-- contracts of `start`, `add` and `close`.
use Rattle.suites.specs.Answer.{Answer}
use Rattle.std.specs.Prelude.{◌≡◌, Bool, true, false, ◌||◌, cond, List, [], ◌∷◌, ◌++◌, ℕ, ◌+◌, ◌^◌, ◌<◌, length}
use Rattle.bits.specs.Bytes.{Bytes}
use Rattle.suites.specs.declared.suite.Suite.{Suite}
use Rattle.fields.specs.Kind.{Kind}
use Rattle.format.specs.Sealings.{Sealing, close_sealing, unit_sealings}
use Rattle.fields.specs.Unit.{BookUnit, Given}
use Rattle.writer_state.specs.declared.Writer.{Writer}
use Rattle.suites.specs.Told.{told, by_answer}
use Rattle.writer_state.specs.Tests.{start_outcome, add_outcome, close_outcome}
use Rattle.writer_calls.specs.Writer.{start_writer, start_buffer, add_writer, add_buffer, close_writer, close_buffer}

-- an add of a unit, or a close
pub data Call : Type 0 where
  add : BookUnit → Call
  close : Call

-- what can be handed to a call: any bytes, with codes of the kind's length
pub data Callable (kind : Kind) : Call → Type 0 where
  adds : {u : BookUnit} → Given kind u → Callable kind (add u)
  closes : Callable kind close

-- the writer last handed back, and the buffer as the last call left it
pub record State : Type 0 where
  pub writer : Writer
  pub buffer : List ℕ

abbrev pub state : Writer → List ℕ → State
state w buf = record { writer = w; buffer = buf }

-- how a call is answered
abbrev pub outcome : Kind → Call → State → Answer
outcome kind (add u) s = add_outcome kind s.writer u (length s.buffer)
outcome kind close s = close_outcome kind s.writer (length s.buffer)

-- and what it leaves
abbrev pub after_call : Kind → Call → State → State
after_call kind (add u) s = record { writer = add_writer kind s.writer u s.buffer; buffer = add_buffer kind s.writer u s.buffer }
after_call kind close s = record { writer = close_writer kind s.writer s.buffer; buffer = close_buffer kind s.writer s.buffer }

-- the contracts of `add` and `close`: a call on the one state answers a, and leaves the other
pub record Answers (kind : Kind) (c : Call) (before : State) (a : Answer) (after : State) : Type 0 where
  pub answer : a ≡ outcome kind c before
  pub writer : after.writer ≡ (after_call kind c before).writer
  pub buffer : after.buffer ≡ (after_call kind c before).buffer

-- the contract of `start`
pub record Starts (suite : Suite) (key : List ℕ) (number : ℕ) (buf : List ℕ) (a : Answer) (after : State) : Type 0 where
  pub answer : a ≡ start_outcome suite (length key) (length buf)
  pub writer : after.writer ≡ start_writer suite key number buf
  pub buffer : after.buffer ≡ start_buffer suite key number buf

-- what a list of calls leaves, refused ones included
unfoldable pub after_calls : Kind → List Call → State → State
after_calls kind [] s = s
after_calls kind (c ∷ cs) s = after_calls kind cs (after_call kind c s)

-- "The units of a list are, in order, the language pair, source and target of each accepted add; a close or a refused call brings none."
abbrev pub units_of : Call → List BookUnit
units_of (add u) = u ∷ []
units_of close = []

unfoldable pub units : Kind → List Call → State → List BookUnit
units kind [] s = []
units kind (c ∷ cs) s = by_answer (outcome kind c s) (units_of c) [] ++ units kind cs (after_call kind c s)

-- whether a close was accepted
abbrev pub is_close : Call → Bool
is_close (add u) = false
is_close close = true

unfoldable pub has_close : Kind → List Call → State → Bool
has_close kind [] s = false
has_close kind (c ∷ cs) s = by_answer (outcome kind c s) (is_close c) false || has_close kind cs (after_call kind c s)

-- "The cipher calls of an accepted add or close are the call list of its sealing. That sealing is demand 2's, under the start's suite and
-- key with the nonce and header above": the sealings of the accepted calls, first of a call's units, then of a close
abbrev pub sealings_of : Kind → Call → Writer → List Sealing
sealings_of kind c w =
    unit_sealings kind w.suite w.number w.count (units_of c)
    ++ cond (is_close c) (close_sealing kind w.suite w.number (w.count + length (units_of c)) ∷ []) []

unfoldable pub sealings : Kind → List Call → State → List Sealing
sealings kind [] s = []
sealings kind (c ∷ cs) s = by_answer (outcome kind c s) (sealings_of kind c s.writer) [] ++ sealings kind cs (after_call kind c s)

-- a start that is accepted: what it was given
pub record Start : Type 0 where
  pub suite : Suite
  pub key : List ℕ
  pub number : ℕ
  pub buffer : List ℕ
  pub key_bytes : Bytes key
  pub buffer_bytes : Bytes buffer
  pub number_fits : number < 2 ^ 64
  pub accepted : (told (start_outcome suite (length key) (length buffer))).number ≡ 0

-- "The list begins with the writer and buffer that an accepted start leaves; its key is the one given to that start."
abbrev pub started : Start → State
started s =
    record {
      writer = start_writer s.suite s.key s.number s.buffer;
      buffer = start_buffer s.suite s.key s.number s.buffer;
    }
