-- A call on the writer that the bytes hold, told to C.
use Rattle.suites.specs.Answer.{Answer}
use mathlib.Core.Path.{◌≡◌, ap, sym, ◌∙◌}
use mathlib.Core.List.{List}
use Prim.Native.Nat.{ℕ}
use Rattle.suites.specs.Told.{by_answer}
use Rattle.fields.specs.Kind.{writer_kind}
use Rattle.writer_state.specs.declared.Writer.{Writer}
use Rattle.writer_calls.specs.History.{Call, State, state, outcome, Answers}
use Rattle.writer_bytes.specs.WriterBytes.{writer_of, writer_bytes}
use Rattle.returned.specs.Returned.{returned}
use Rattle.c_writer.specs.Written.{Kept, kept, state_of, CallsForC}

module _ (c : Call) (k : Kept) {w : Writer} (held : w ≡ writer_of k.writer) {a : Answer} {after : State} where
  -- the call was made on that writer
  answered : Answers writer_kind c (state w k.buffer) a after → Answers writer_kind c (state_of k) a after
  answered h = rw held at h

  pub calls_for_c : Answers writer_kind c (state w k.buffer) a after → (r : ℕ) → r ≡ returned a
      → (b : List ℕ) → b ≡ by_answer a (writer_bytes after.writer) k.writer → CallsForC c k r (kept b after.buffer)
  calls_for_c h r number b bytes =
      let g = answered h in
      record {
        returns = number ∙ ap returned g.answer;
        writer =
            bytes ∙ ap (λ (x : Answer). by_answer x (writer_bytes after.writer) k.writer) g.answer
            ∙ ap (λ (x : Writer). by_answer (outcome writer_kind c (state_of k)) (writer_bytes x) k.writer) g.writer;
        buffer = g.buffer;
      }
