-- What the calls on a writer return to C, and what they leave in what C keeps: the writer's 64 bytes and the buffer.
use Rattle.std.specs.Prelude.{◌≡◌, List, ℕ, length}
use Rattle.suites.specs.declared.suite.Suite.{Suite}
use Rattle.suites.specs.Told.{by_answer}
use Rattle.fields.specs.Kind.{writer_kind}
use Rattle.writer_calls.specs.History.{Call, State, outcome, after_call}
use Rattle.writer_state.specs.Tests.{start_outcome}
use Rattle.writer_calls.specs.Writer.{start_writer, start_buffer}
use Rattle.writer_bytes.specs.WriterBytes.{writer_of, writer_bytes}
use Rattle.returned.specs.Returned.{returned}

pub record Kept : Type 0 where
  pub writer : List ℕ
  pub buffer : List ℕ

abbrev pub kept : List ℕ → List ℕ → Kept
kept writer buffer = record { writer = writer; buffer = buffer }

-- the writer that the bytes hold, and the buffer: a state of the lists of calls of demand 3
abbrev pub state_of : Kept → State
state_of k = record { writer = writer_of k.writer; buffer = k.buffer }

-- the writer's bytes after a call: those of the writer that was handed back, or with a refusal what was there
abbrev pub bytes_after : Call → Kept → List ℕ
bytes_after c k = by_answer (outcome writer_kind c (state_of k)) (writer_bytes (after_call writer_kind c (state_of k)).writer) k.writer

-- the contracts of `sb_add` and `sb_close`: a call returns r, and leaves what is kept after it
pub record CallsForC (c : Call) (before : Kept) (r : ℕ) (after : Kept) : Type 0 where
  pub returns : r ≡ returned (outcome writer_kind c (state_of before))
  pub writer : after.writer ≡ bytes_after c before
  pub buffer : after.buffer ≡ (after_call writer_kind c (state_of before)).buffer

-- the contract of `sb_start`
pub record StartsForC (suite : Suite) (key : List ℕ) (number : ℕ) (buf : List ℕ) (r : ℕ) (after : Kept) : Type 0 where
  pub returns : r ≡ returned (start_outcome suite (length key) (length buf))
  pub writer : after.writer ≡ writer_bytes (start_writer suite key number buf)
  pub buffer : after.buffer ≡ start_buffer suite key number buf
