-- The tests, then the opening fields.
use Rattle.std.specs.Result.{is_err}
use mathlib.Core.Path.{◌≡◌, sym, ap, ◌∙◌}
use mathlib.Core.Bool.{Bool, false}
use mathlib.Core.List.{List, ◌++◌}
use Prim.Native.Nat.{ℕ}
use native.Mathlib.Nat.{le_of_eq, zero-add}
use native.Mathlib.Omega.{arith}
use lib.ListN.{length, drop}
use lib.Seq.{take_all}
use Rattle.suites.specs.Answer.{Answer}
use Rattle.suites.specs.declared.suite.Suite.{Suite}
use Rattle.format.specs.Sealings.{opening_fields}
use Rattle.format.proofs.Lengths.{length_opening_fields}
use Rattle.writer_state.specs.Writer.{no_writer}
use Rattle.writer_state.specs.Tests.{start_outcome}
use Rattle.writer_state.proofs.Passed.{Startable, start_passed}
use Rattle.writer_calls.specs.Writer.{new_writer, put_at}
use Rattle.writer_calls.proofs.Handed.{start_handed}
use Rattle.writer.proofs.Answered.{done, kept}
use Rattle.writer.proofs.Written.start.Goals as goal

given : {suite : Suite} {k room : ℕ} (a : Answer) {r : Bool} → a ≡ start_outcome suite k room → r ≡ is_err a → r ≡ false
    → Startable suite k room
given {suite} {k} {room} a e is f = start_passed suite k room (sym e ∙ done a is f)

pub returns-then-is_err : goal.returns-then-is_err
returns-then-is_err c =
    let p = c.args in
    let a = c.start_tests-answer.result in
    let is = start_handed p.suite p.key.now p.number p.buf.now {a = a} (sym c.start_tests-answer.ensures) in
    let f = opening_fields p.suite p.number in
    record {
      answer = c.start_tests-answer.ensures;
      writer =
          c.no_writer.ensures
          ∙ kept a (new_writer p.suite p.key.now p.number) no_writer c.is_err.ensures.value c.if-is_err.true ∙ is.0;
      buffer = kept a (put_at 0 f p.buf.now) p.buf.now c.is_err.ensures.value c.if-is_err.true ∙ is.1;
    }

pub copy-requires : goal.copy-requires
copy-requires c =
    let p = c.args in
    let g = given c.start_tests-answer.result c.start_tests-answer.ensures c.is_err.ensures.value c.if-is_err.false in
    omega (arith, g.enough, ap length c.opening.ensures, length_opening_fields p.suite p.number)

pub block_at-requires : goal.block_at-requires
block_at-requires c =
    let g = given c.start_tests-answer.result c.start_tests-answer.ensures c.is_err.ensures.value c.if-is_err.false in
    le_of_eq (sym g.key)

pub returns : goal.returns
returns c =
    let p = c.args in
    let g = given c.start_tests-answer.result c.start_tests-answer.ensures c.is_err.ensures.value c.if-is_err.false in
    let is = start_handed p.suite p.key.now p.number p.buf.now (sym c.start_tests-answer.ensures ∙ done c.start_tests-answer.result c.is_err.ensures.value c.if-is_err.false) in
    let key : c.block_at.result ≡ p.key.now = c.block_at.ensures ∙ take_all 16 p.key.now (le_of_eq g.key) in
    let f = opening_fields p.suite p.number in
    record {
      answer = c.start_tests-answer.ensures;
      writer = ap (λ (k : List ℕ). new_writer p.suite k p.number) key ∙ is.0;
      buffer =
          c.copy.ensures
          ∙ ap (λ (x : List ℕ). x ++ drop (length x) p.buf.now) c.opening.ensures
          ∙ ap (λ (k : ℕ). f ++ drop k p.buf.now) (sym (zero-add (length f)))
          ∙ is.1;
    }
