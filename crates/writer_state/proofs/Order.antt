-- What add and close know behind the tests that they share.
use Rattle.suites.specs.Answer.{Answer}
use Rattle.std.specs.Prelude.{Ok}
use mathlib.Core.Path.{◌≡◌, refl, sym, ap, ◌∙◌}
use mathlib.Core.Bool.{Bool, true, false, not}
use Prim.Native.Nat.{ℕ, ◌≤◌}
use Rattle.suites.specs.declared.refusal.Refusal.TheVariants.{WriterInvalid, WriterClosed}
use Rattle.limits.specs.Tests.{unless}
use Rattle.fields.specs.Kind.{Kind}
use Rattle.writer_state.specs.declared.Writer.{Writer}
use Rattle.suites.specs.Told.{by_answer}
use Rattle.writer_state.specs.Tests.{valid, writer_tests}
use Rattle.writer_state.proofs.Passed.{writer_passed}

-- 9 and 10 come before the rest
writer_first : (kind : Kind) (w : Writer) (room : ℕ) (rest : Answer)
    → writer_tests kind w room rest ≡ by_answer (writer_tests kind w room (Ok tt)) rest (writer_tests kind w room (Ok tt))
unfolding writer_tests
writer_first kind w room rest = by (valid kind w room) (not w.closed)
  where
    by : (v o : Bool)
        → unless v WriterInvalid (unless o WriterClosed rest)
        ≡ by_answer (unless v WriterInvalid (unless o WriterClosed (Ok tt))) rest (unless v WriterInvalid (unless o WriterClosed (Ok tt)))
    by true true = refl
    by true false = refl
    by false o = refl

module _ (kind : Kind) (w : Writer) (room : ℕ) where
  -- their answer, where it is known, tells the whole
  pub tested : (rest : Answer) {a : Answer} → a ≡ writer_tests kind w room (Ok tt) → writer_tests kind w room rest ≡ by_answer a rest a
  tested rest e = writer_first kind w room rest ∙ ap (λ (b : Answer). by_answer b rest b) (sym e)

  pub within_tested : Ok tt ≡ writer_tests kind w room (Ok tt) → w.place ≤ room
  within_tested e = (writer_passed kind w room (Ok tt) (sym e)).0.within

  pub count_tested : Ok tt ≡ writer_tests kind w room (Ok tt) → w.count ≤ kind.unit_limit
  count_tested e = (writer_passed kind w room (Ok tt) (sym e)).0.count

-- what is known behind 9 and 10
pub ruleset after_writer = (tested, within_tested, count_tested)
