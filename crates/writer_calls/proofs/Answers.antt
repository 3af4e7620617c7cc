-- What a call is answered by number, where the writer is valid: 9 is not due.
use Rattle.suites.specs.Answer.{Answer}
use Rattle.std.specs.Prelude.{Ok}
use mathlib.Core.Path.{◌≡◌, refl, ap, ◌∙◌}
use mathlib.Core.Bool.{Bool, true, false, not}
use mathlib.Core.List.{[]}
use Prim.Native.Nat.{ℕ, ◌+◌}
use lib.Dec.{eqb, leb, ltb}
use lib.ListN.{length}
use Rattle.suites.specs.declared.refusal.Refusal.TheVariants.{
  SuiteNotListed,
  KeyLength,
  OutputTooShort,
  WriterInvalid,
  WriterClosed,
  LanguagesNotAllowed,
  SegmentLength,
  TooManyUnits,
}
use Rattle.suites.specs.declared.suite.Suite.{Suite}
use Rattle.suites.specs.Suite.{listed}
use Rattle.suites.specs.Told.{Told, gives, due, told}
use Rattle.limits.specs.Tests.{unless}
use Rattle.limits.proofs.Told.{told_unless}
use Rattle.fields.specs.Kind.{Kind}
use Rattle.fields.specs.Languages.{pair_allowed}
use Rattle.fields.specs.Unit.{in_range}
use Rattle.kinds.specs.Lengths.{unit_length, close_length}
use Rattle.writer_state.specs.Tests.{start_outcome, writer_tests, add_tests, add_outcome, close_outcome}
use Rattle.writer_calls.specs.History.{Call, add, close, State, outcome}
use Rattle.writer_calls.specs.Left.{start_answer_to, answer_to}
use Rattle.writer_state.proofs.Passed.{Valid, valid_is}

not_closed : (closed : Bool) (n : ℕ) (r : Told) → due (not (not closed)) n r ≡ due closed n r
not_closed true n r = refl
not_closed false n r = refl

module _ (kind : Kind) (e : State) (v : Valid kind e.writer (length e.buffer)) where
  -- behind the writer's own tests
  writer-told : (rest : Answer) (r : Told) → told rest ≡ r → told (writer_tests kind e.writer (length e.buffer) rest) ≡ due e.writer.closed 10 r
  unfolding writer_tests
  writer-told rest r h =
      ap (λ (ok : Bool). told (unless ok WriterInvalid (unless (not e.writer.closed) WriterClosed rest)))
      (valid_is kind e.writer (length e.buffer) v)
      ∙ told_unless (not e.writer.closed) WriterClosed rest r h
      ∙ not_closed e.writer.closed 10 r

  pub answers_told : (c : Call) → told (outcome kind c e) ≡ answer_to kind e.writer.closed e.writer.count e.writer.place (length e.buffer) c
  unfolding add_outcome add_tests close_outcome
  answers_told (add u) =
      let languages = pair_allowed u.from u.to in
      let range = in_range (length u.source) (length u.target) in
      let few = ltb e.writer.count kind.unit_limit in
      let room = leb (e.writer.place + unit_length kind (length u.source) (length u.target)) (length e.buffer) in
      let last = told_unless room OutputTooShort (Ok tt) (gives []) refl in
      let many = told_unless few TooManyUnits (unless room OutputTooShort (Ok tt)) (due (not room) 7 (gives [])) last in
      let long =
      told_unless range SegmentLength (unless few TooManyUnits (unless room OutputTooShort (Ok tt))) (due (not few) 13 (due (not room) 7 (gives []))) many in
      writer-told _ _
      (told_unless languages LanguagesNotAllowed (unless range SegmentLength (unless few TooManyUnits (unless room OutputTooShort (Ok tt))))
      (due (not range) 12 (due (not few) 13 (due (not room) 7 (gives [])))) long)
  answers_told close =
      let room = leb (e.writer.place + close_length kind) (length e.buffer) in
      writer-told (unless room OutputTooShort (Ok tt)) (due (not room) 7 (gives [])) (told_unless room OutputTooShort (Ok tt) (gives []) refl)

pub start_told : (suite : Suite) (k room : ℕ) → told (start_outcome suite k room) ≡ start_answer_to suite k room
unfolding start_outcome
start_told suite k room =
    let whole = eqb k 16 in
    let enough = leb 16 room in
    let last = unless enough OutputTooShort (Ok tt) in
    told_unless (listed suite.cipher suite.steps) SuiteNotListed (unless whole KeyLength last) (due (not whole) 2 (due (not enough) 7 (gives [])))
    (told_unless whole KeyLength last (due (not enough) 7 (gives [])) (told_unless enough OutputTooShort (Ok tt) (gives []) refl))
