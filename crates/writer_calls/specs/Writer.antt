-- The writer that `start`, `add` and `close` hand back, and what they leave in the buffer. All but `start` go by the kind of book that the
-- writer makes.
use Rattle.std.specs.Prelude.{true, false, List, ◌++◌, ℕ, ◌+◌, length, take, drop}
use Rattle.suites.specs.declared.suite.Suite.{Suite}
use Rattle.suites.specs.Told.{by_answer}
use Rattle.fields.specs.Kind.{Kind}
use Rattle.kinds.specs.Lengths.{unit_length, close_length}
use Rattle.format.specs.Layout.{unit_bytes, close_bytes}
use Rattle.format.specs.Sealings.{opening_fields, unit_sealing, close_sealing, sealing_calls}
use Rattle.fields.specs.Unit.{BookUnit}
use Rattle.writer_state.specs.declared.Writer.{Writer}
use Rattle.writer_state.specs.Tests.{start_outcome, add_outcome, close_outcome}
use Rattle.writer_state.specs.Writer.{no_writer}

-- bytes written at a place of the buffer; "other bytes stay"
abbrev pub put_at : ℕ → List ℕ → List ℕ → List ℕ
put_at place bytes buf = take place buf ++ (bytes ++ drop (place + length bytes) buf)

-- "Start takes suite, key, book number and buffer, and writes 16 bytes"; "the call total is 0 after start"
abbrev pub new_writer : Suite → List ℕ → ℕ → Writer
new_writer suite key number = record { suite = suite; key = key; number = number; place = 16; count = 0; total = 0; closed = false }

unfoldable pub start_writer : Suite → List ℕ → ℕ → List ℕ → Writer
start_writer suite key number buf = by_answer (start_outcome suite (length key) (length buf)) (new_writer suite key number) no_writer

unfoldable pub start_buffer : Suite → List ℕ → ℕ → List ℕ → List ℕ
start_buffer suite key number buf = by_answer (start_outcome suite (length key) (length buf)) (put_at 0 (opening_fields suite number) buf) buf

-- "place, count and call total moved on": the call total "grows, at each accepted call, by its sealing's call count, the length of that
-- call list"
abbrev pub added_to : Kind → Writer → BookUnit → Writer
added_to kind w u =
    record {
      suite = w.suite;
      key = w.key;
      number = w.number;
      place = w.place + unit_length kind (length u.source) (length u.target);
      count = w.count + 1;
      total = w.total + length (sealing_calls (unit_sealing kind w.suite w.number w.count u));
      closed = w.closed;
    }

unfoldable pub add_writer : Kind → Writer → BookUnit → List ℕ → Writer
add_writer kind w u buf = by_answer (add_outcome kind w u (length buf)) (added_to kind w u) w

unfoldable pub add_buffer : Kind → Writer → BookUnit → List ℕ → List ℕ
add_buffer kind w u buf =
    by_answer (add_outcome kind w u (length buf)) (put_at w.place (unit_bytes kind w.suite w.key w.number w.count u) buf) buf

abbrev pub closed_of : Kind → Writer → Writer
closed_of kind w =
    record {
      suite = w.suite;
      key = w.key;
      number = w.number;
      place = w.place + close_length kind;
      count = w.count;
      total = w.total + length (sealing_calls (close_sealing kind w.suite w.number w.count));
      closed = true;
    }

unfoldable pub close_writer : Kind → Writer → List ℕ → Writer
close_writer kind w buf = by_answer (close_outcome kind w (length buf)) (closed_of kind w) w

unfoldable pub close_buffer : Kind → Writer → List ℕ → List ℕ
close_buffer kind w buf =
    by_answer (close_outcome kind w (length buf)) (put_at w.place (close_bytes kind w.suite w.key w.number w.count) buf) buf
