-- The writer and the buffer, by the answer of the tests.
use Rattle.suites.specs.Answer.{Answer}
use mathlib.Core.Path.{◌≡◌, sym, ap}
use mathlib.Core.List.{List}
use Prim.Native.Nat.{ℕ}
use lib.ListN.{length}
use Rattle.suites.specs.declared.suite.Suite.{Suite}
use Rattle.fields.specs.Kind.{Kind}
use Rattle.format.specs.Layout.{unit_bytes, close_bytes}
use Rattle.format.specs.Sealings.{opening_fields}
use Rattle.fields.specs.Unit.{BookUnit}
use Rattle.suites.specs.Told.{by_answer}
use Rattle.writer_state.specs.declared.Writer.{Writer}
use Rattle.writer_state.specs.Tests.{start_outcome, add_outcome, close_outcome}
use Rattle.writer_state.specs.Writer.{no_writer}
use Rattle.writer_calls.specs.Writer.{put_at, new_writer, start_writer, start_buffer, added_to, add_writer, add_buffer, closed_of, close_writer, close_buffer}

-- one answer for another
by : {A : Type 0} {a b : Answer} (new old : A) → a ≡ b → by_answer b new old ≡ by_answer a new old
by new old e = ap (λ a. by_answer a new old) (sym e)

pub start_handed : (suite : Suite) (key : List ℕ) (number : ℕ) (buf : List ℕ) {a : Answer} → start_outcome suite (length key) (length buf) ≡ a
    → (by_answer a (new_writer suite key number) no_writer ≡ start_writer suite key number buf)
    × (by_answer a (put_at 0 (opening_fields suite number) buf) buf ≡ start_buffer suite key number buf)
unfolding start_writer start_buffer
start_handed suite key number buf e = (by (new_writer suite key number) no_writer e, by (put_at 0 (opening_fields suite number) buf) buf e)

pub add_handed : (kind : Kind) (w : Writer) (u : BookUnit) (buf : List ℕ) {a : Answer} → add_outcome kind w u (length buf) ≡ a
    → (by_answer a (added_to kind w u) w ≡ add_writer kind w u buf)
    × (by_answer a (put_at w.place (unit_bytes kind w.suite w.key w.number w.count u) buf) buf ≡ add_buffer kind w u buf)
unfolding add_writer add_buffer
add_handed kind w u buf e =
    (by (added_to kind w u) w e, by (put_at w.place (unit_bytes kind w.suite w.key w.number w.count u) buf) buf e)

pub close_handed : (kind : Kind) (w : Writer) (buf : List ℕ) {a : Answer} → close_outcome kind w (length buf) ≡ a
    → (by_answer a (closed_of kind w) w ≡ close_writer kind w buf)
    × (by_answer a (put_at w.place (close_bytes kind w.suite w.key w.number w.count) buf) buf ≡ close_buffer kind w buf)
unfolding close_writer close_buffer
close_handed kind w buf e =
    (by (closed_of kind w) w e, by (put_at w.place (close_bytes kind w.suite w.key w.number w.count) buf) buf e)
