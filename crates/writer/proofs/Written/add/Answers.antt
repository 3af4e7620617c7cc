-- The tests, then the unit, of the kind that the code says.
use Rattle.std.specs.Result.{is_err}
use mathlib.Core.Path.{◌≡◌, sym, ap, ◌∙◌, subst}
use mathlib.Core.Bool.{Bool, false}
use mathlib.Core.List.{List, ◌++◌}
use Prim.Native.Nat.{ℕ, ◌+◌, ◌-◌}
use native.Mathlib.Omega.{arith}
use lib.ListN.{length, drop, take, length-drop}
use Rattle.bits.proofs.Lists.{part_rest}
use Rattle.suites.specs.Answer.{Answer}
use Rattle.fields.specs.Kind.{Kind}
use Rattle.fields.specs.Unit.{BookUnit, unit_of}
use Rattle.fields.proofs.Details.{length_codes}
use Rattle.kinds.specs.Kind.{kind_of}
use Rattle.kinds.specs.Lengths.{unit_length}
use Rattle.kinds.proofs.Formed.{formed, two_letters, newest_kind}
use Rattle.format.specs.Layout.{unit_bytes}
use Rattle.format.proofs.Lengths.{length_unit_bytes}
use Rattle.writer_state.specs.declared.Writer.{Writer}
use Rattle.writer_state.specs.Tests.{add_tests, add_outcome}
use Rattle.writer_state.proofs.Passed.{Addable, add_passed}
use Rattle.writer_calls.specs.History.{add, state, Answers}
use Rattle.writer_calls.specs.Writer.{added_to, put_at}
use Rattle.writer_calls.proofs.Few.{unit_calls_lem}
use Rattle.writer_calls.proofs.Handed.{add_handed}
use Rattle.writer_calls.proofs.Put.{put_part}
use Rattle.writer.proofs.Answered.{done, kept}
use Rattle.writer.proofs.Written.add.Goals as goal

given : {kind : Kind} {w : Writer} {from to : List ℕ} {s t room : ℕ} (a : Answer) {r : Bool} → a ≡ add_tests kind w from to s t room
    → r ≡ is_err a → r ≡ false → Addable kind w from to s t room
given {kind} {w} {from} {to} {s} {t} {room} a e is f = add_passed kind w from to s t room (sym e ∙ done a is f)

pub returns-then-is_err : goal.returns-then-is_err
unfolding add_outcome
returns-then-is_err c =
    let p = c.args in
    let w = p.self.writer in
    let kind : Kind = kind_of c.newest-kind.result in
    let u : BookUnit = unit_of p.from p.to p.source.now p.target.now in
    let a = c.add_tests-answer.result in
    let is = add_handed kind w u p.buf.now {a = a} (sym c.add_tests-answer.ensures) in
    let bytes = unit_bytes kind w.suite w.key w.number w.count u in
    subst (λ (k : Kind). Answers k (add u) (state w p.buf.now) a (state w p.buf.now)) (newest_kind c.newest-kind.ensures)
    (record {
      answer = c.add_tests-answer.ensures;
      writer = kept a (added_to kind w u) w c.is_err.ensures.value c.if-is_err.true ∙ is.0;
      buffer = kept a (put_at w.place bytes p.buf.now) p.buf.now c.is_err.ensures.value c.if-is_err.true ∙ is.1;
    })

pub slice_bounds-put_unit-count : goal.slice_bounds-put_unit-count
slice_bounds-put_unit-count c =
    let g = given c.add_tests-answer.result c.add_tests-answer.ensures c.is_err.ensures.value c.if-is_err.false in
    g.valid.within

pub slice_bounds-put_unit-start : goal.slice_bounds-put_unit-start
slice_bounds-put_unit-start c =
    let g = given c.add_tests-answer.result c.add_tests-answer.ensures c.is_err.ensures.value c.if-is_err.false in
    g.valid.within

pub put_unit-calls-requires : goal.put_unit-calls-requires
put_unit-calls-requires c =
    let g = given c.add_tests-answer.result c.add_tests-answer.ensures c.is_err.ensures.value c.if-is_err.false in
    (g.valid.listed_suite, g.range, rw (part_rest, length-drop) (omega (arith, g.enough)))

pub unit_room-requires : goal.unit_room-requires
unit_room-requires c =
    let g = given c.add_tests-answer.result c.add_tests-answer.ensures c.is_err.ensures.value c.if-is_err.false in
    omega (arith, g.source, g.target)

pub overflow_add-result : goal.overflow_add-result
overflow_add-result c =
    let g = given c.add_tests-answer.result c.add_tests-answer.ensures c.is_err.ensures.value c.if-is_err.false in
    omega (arith, g.enough, c.unit_room.ensures.is)

pub overflow_add-result-2 : goal.overflow_add-result-2
overflow_add-result-2 c =
    let g = given c.add_tests-answer.result c.add_tests-answer.ensures c.is_err.ensures.value c.if-is_err.false in
    let limit = ap (λ (k : Kind). k.unit_limit) (newest_kind c.newest-kind.ensures) in
    omega (arith, g.few, limit)

pub overflow_add-result-3 : goal.overflow_add-result-3
overflow_add-result-3 c =
    let p = c.args in
    let w = p.self.writer in
    let kind = c.newest-kind.result in
    let u : BookUnit = unit_of p.from p.to p.source.now p.target.now in
    let g = given c.add_tests-answer.result c.add_tests-answer.ensures c.is_err.ensures.value c.if-is_err.false in
    let limit = ap (λ (k : Kind). k.unit_limit) (newest_kind c.newest-kind.ensures) in
    let codes =
    length_codes (kind_of kind) u (c.well_formed.1.0.1.0.1 ∙ sym (two_letters kind)) (c.well_formed.1.1.0.1.0.1 ∙ sym (two_letters kind)) in
    let few = unit_calls_lem (kind_of kind) (formed kind) w.suite w.number w.count u codes g.source g.target in
    omega (arith, g.valid.total, g.few, limit, c.put_unit-calls.ensures.calls, few)

pub returns : goal.returns
unfolding add_outcome
returns c =
    let p = c.args in
    let w = p.self.writer in
    let buf = p.buf.now in
    let kind : Kind = kind_of c.newest-kind.result in
    let u : BookUnit = unit_of p.from p.to p.source.now p.target.now in
    let a = c.add_tests-answer.result in
    let g = given c.add_tests-answer.result c.add_tests-answer.ensures c.is_err.ensures.value c.if-is_err.false in
    let is = add_handed kind w u buf (sym c.add_tests-answer.ensures ∙ done a c.is_err.ensures.value c.if-is_err.false) in
    let letters = two_letters c.newest-kind.result in
    let codes = length_codes kind u (c.well_formed.1.0.1.0.1 ∙ sym letters) (c.well_formed.1.1.0.1.0.1 ∙ sym letters) in
    let bytes = unit_bytes kind w.suite w.key w.number w.count u in
    let long = length_unit_bytes kind w.suite w.key w.number w.count u codes in
    let added : Writer =
    record {
      suite = w.suite;
      key = w.key;
      number = w.number;
      place = w.place + c.unit_room.result;
      count = w.count + 1;
      total = w.total + c.put_unit-calls.result;
      closed = w.closed;
    } in
    let put : List ℕ = take w.place buf ++ (c.put_unit-calls.new.out ++ drop (length buf - w.place) (drop w.place buf)) in
    subst (λ (k : Kind). Answers k (add u) (state w buf) a (state added put)) (newest_kind c.newest-kind.ensures)
    (record {
      answer = c.add_tests-answer.ensures;
      writer =
          ◌∙◌ {b = added_to kind w u}
          (λ j. record {
            suite = w.suite;
            key = w.key;
            number = w.number;
            place = w.place + c.unit_room.ensures.is j;
            count = w.count + 1;
            total = w.total + c.put_unit-calls.ensures.calls j;
            closed = w.closed;
          })
          is.0;
      buffer =
          put_part w.place (unit_length kind (length u.source) (length u.target)) bytes buf long g.valid.within
          c.put_unit-calls.new.out c.put_unit-calls.ensures.is
          ∙ is.1;
    })
