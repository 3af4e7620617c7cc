-- The answers of `verify_apart` and `open_within`, by what their tests say.
use Rattle.suites.specs.Answer.{Answer}
use Rattle.std.specs.Prelude.{Ok, Err}
use mathlib.Core.Path.{◌≡◌, sym, ap}
use mathlib.Core.List.{List}
use Prim.Native.Nat.{ℕ}
use lib.ListN.{length}
use Rattle.suites.specs.declared.refusal.Refusal.{Refusal}
use Rattle.suites.specs.declared.suite.Suite.{Suite}
use Rattle.limits.specs.Tests.{verify_tests}
use Rattle.limits.proofs.Passed.{verify_passed}
use Rattle.opening.specs.Open.{opened, agrees, then_tag, by_tag}
use Rattle.opening.proofs.Answers.{Ready, ready}
use Rattle.verifying.specs.Verify.{verify_outcome, verify_report, verify_answer}
use Rattle.verifying.specs.Within.{held_in, within_buffer}

module _ (s : Suite) (key nonce h x : List ℕ) where
  -- what the tests answer
  abbrev pub tests : Answer
  tests = verify_tests s.cipher s.steps (length key) (length nonce) (length h) (length x)

  -- the outcome and the answer, by what the tests say
  pub verify_outcome_lem : (a : Answer) → tests ≡ a
      → then_tag a (agrees s.cipher s.steps key nonce h x) ≡ verify_outcome s.cipher s.steps key nonce h x
  unfolding verify_outcome
  verify_outcome_lem a e = sym (ap (λ (a : Answer). then_tag a (agrees s.cipher s.steps key nonce h x)) e)

  verify-answer : (a : Answer) → tests ≡ a
      → verify_report (then_tag a (agrees s.cipher s.steps key nonce h x)) (opened s.cipher s.steps key nonce h x)
      ≡ verify_answer s.cipher s.steps key nonce h x
  unfolding verify_answer
  verify-answer a e = ap (λ (o : Answer). verify_report o (opened s.cipher s.steps key nonce h x)) (verify_outcome_lem a e)

  pub verify_refused : (why : Refusal) → tests ≡ Err why
      → Err why ≡ verify_answer s.cipher s.steps key nonce h x
  verify_refused why e = verify-answer (Err why) e

  -- what is left in a working buffer
  pub within_buffer_lem : (work : List ℕ) (a : Answer) → tests ≡ a
      → held_in a (opened s.cipher s.steps key nonce h x) work ≡ within_buffer s.cipher s.steps key nonce h x work
  unfolding within_buffer
  within_buffer_lem work a e = sym (ap (λ (a : Answer). held_in a (opened s.cipher s.steps key nonce h x) work) e)

  module _ (e : tests ≡ Ok tt) where
    pub verify_ready : Ready s key nonce h x
    verify_ready =
        ready s key nonce h x (verify_passed s.cipher s.steps (length key) (length nonce) (length h) (length x) e)

    pub verify_done : verify_report (by_tag s key nonce h x) (opened s.cipher s.steps key nonce h x) ≡ verify_answer s.cipher s.steps key nonce h x
    verify_done = verify-answer (Ok tt) e
