-- The tests, then the close, of the kind that the code says.
use Rattle.std.specs.Result.{is_err}
use mathlib.Core.Path.{◌≡◌, sym, ap, ◌∙◌, subst}
use mathlib.Core.Bool.{Bool, true, false}
use mathlib.Core.List.{List, ◌++◌}
use Prim.Native.Nat.{ℕ, ◌+◌, ◌-◌}
use native.Mathlib.Omega.{arith}
use lib.ListN.{length, drop, take, length-drop}
use Rattle.bits.proofs.Lists.{part_rest}
use Rattle.suites.specs.Answer.{Answer}
use Rattle.fields.specs.Kind.{Kind}
use Rattle.kinds.specs.Kind.{kind_of}
use Rattle.kinds.specs.Lengths.{close_length}
use Rattle.kinds.proofs.Formed.{formed, newest_kind}
use Rattle.format.specs.Layout.{close_bytes}
use Rattle.format.proofs.Lengths.{length_close_bytes}
use Rattle.writer_state.specs.declared.Writer.{Writer}
use Rattle.writer_state.specs.Tests.{close_outcome}
use Rattle.writer_state.proofs.Passed.{Closable, close_passed}
use Rattle.writer_calls.specs.History.{close, state, Answers}
use Rattle.writer_calls.specs.Writer.{closed_of, put_at}
use Rattle.writer_calls.proofs.Few.{close_calls_lem}
use Rattle.writer_calls.proofs.Handed.{close_handed}
use Rattle.writer_calls.proofs.Put.{put_part}
use Rattle.writer.proofs.Answered.{done, kept}
use Rattle.writer.proofs.Written.close.Goals as goal

given : {kind : Kind} {w : Writer} {room : ℕ} (a : Answer) {r : Bool} → a ≡ close_outcome kind w room → r ≡ is_err a → r ≡ false
    → Closable kind w room
given {kind} {w} {room} a e is f = close_passed kind w room (sym e ∙ done a is f)

pub returns-then-is_err : goal.returns-then-is_err
returns-then-is_err c =
    let p = c.args in
    let w = p.self.writer in
    let kind : Kind = kind_of c.newest-kind.result in
    let a = c.close_tests-answer.result in
    let is = close_handed kind w p.buf.now {a = a} (sym c.close_tests-answer.ensures) in
    let bytes = close_bytes kind w.suite w.key w.number w.count in
    subst (λ (k : Kind). Answers k close (state w p.buf.now) a (state w p.buf.now)) (newest_kind c.newest-kind.ensures)
    (record {
      answer = c.close_tests-answer.ensures;
      writer = kept a (closed_of kind w) w c.is_err.ensures.value c.if-is_err.true ∙ is.0;
      buffer = kept a (put_at w.place bytes p.buf.now) p.buf.now c.is_err.ensures.value c.if-is_err.true ∙ is.1;
    })

pub slice_bounds-put_close-count : goal.slice_bounds-put_close-count
slice_bounds-put_close-count c =
    let g = given c.close_tests-answer.result c.close_tests-answer.ensures c.is_err.ensures.value c.if-is_err.false in
    g.valid.within

pub slice_bounds-put_close-start : goal.slice_bounds-put_close-start
slice_bounds-put_close-start c =
    let g = given c.close_tests-answer.result c.close_tests-answer.ensures c.is_err.ensures.value c.if-is_err.false in
    g.valid.within

pub put_close-calls-requires : goal.put_close-calls-requires
put_close-calls-requires c =
    let g = given c.close_tests-answer.result c.close_tests-answer.ensures c.is_err.ensures.value c.if-is_err.false in
    (g.valid.listed_suite, rw (part_rest, length-drop) (omega (arith, g.enough)))

pub overflow_add-result : goal.overflow_add-result
overflow_add-result c =
    let g = given c.close_tests-answer.result c.close_tests-answer.ensures c.is_err.ensures.value c.if-is_err.false in
    omega (arith, g.enough, c.close_len.ensures.is)

pub overflow_add-result-2 : goal.overflow_add-result-2
overflow_add-result-2 c =
    let w = c.args.self.writer in
    let kind = c.newest-kind.result in
    let g = given c.close_tests-answer.result c.close_tests-answer.ensures c.is_err.ensures.value c.if-is_err.false in
    let few = close_calls_lem (kind_of kind) (formed kind) w.suite w.number w.count in
    let limit = ap (λ (k : Kind). k.unit_limit) (newest_kind c.newest-kind.ensures) in
    omega (arith, g.valid.count, g.valid.total, c.put_close-calls.ensures.calls, few, limit)

pub returns : goal.returns
returns c =
    let p = c.args in
    let w = p.self.writer in
    let buf = p.buf.now in
    let kind : Kind = kind_of c.newest-kind.result in
    let a = c.close_tests-answer.result in
    let g = given c.close_tests-answer.result c.close_tests-answer.ensures c.is_err.ensures.value c.if-is_err.false in
    let is = close_handed kind w buf (sym c.close_tests-answer.ensures ∙ done c.close_tests-answer.result c.is_err.ensures.value c.if-is_err.false) in
    let bytes = close_bytes kind w.suite w.key w.number w.count in
    let long = length_close_bytes kind w.suite w.key w.number w.count in
    let closed : Writer =
    record {
      suite = w.suite;
      key = w.key;
      number = w.number;
      place = w.place + c.close_len.result;
      count = w.count;
      total = w.total + c.put_close-calls.result;
      closed = true;
    } in
    let put : List ℕ = take w.place buf ++ (c.put_close-calls.new.out ++ drop (length buf - w.place) (drop w.place buf)) in
    subst (λ (k : Kind). Answers k close (state w buf) a (state closed put)) (newest_kind c.newest-kind.ensures)
    (record {
      answer = c.close_tests-answer.ensures;
      writer =
          ◌∙◌ {b = closed_of kind w}
          (λ j. record {
            suite = w.suite;
            key = w.key;
            number = w.number;
            place = w.place + c.close_len.ensures.is j;
            count = w.count;
            total = w.total + c.put_close-calls.ensures.calls j;
            closed = true;
          })
          is.0;
      buffer =
          put_part w.place (close_length kind) bytes buf long g.valid.within c.put_close-calls.new.out c.put_close-calls.ensures.is
          ∙ is.1;
    })
