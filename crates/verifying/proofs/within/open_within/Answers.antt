-- The tests, then the tag and the text.
use Rattle.std.specs.Prelude.{Ok, Err}
use mathlib.Core.Path.{◌≡◌, sym, ap, ◌∙◌}
use mathlib.Core.List.{List, ◌++◌}
use Prim.Native.Nat.{ℕ}
use native.Mathlib.Nat.{le_of_eq}
use native.Mathlib.Omega.{arith}
use lib.ListN.{take}
use lib.Seq.{take_all}
use Rattle.std.proofs.lemmas.Result.{err_from_is_err_and}
use Rattle.opening.specs.Open.{opened, by_tag}
use Rattle.opening.proofs.Answers.{Ready}
use Rattle.verifying.specs.Within.{held_in}
use Rattle.verifying.proofs.Apart.{apart_tests_lem, apart_passable}
use Rattle.verifying.proofs.Answers.{tests as due, verify_outcome_lem, within_buffer_lem, verify_ready}
use Rattle.verifying.proofs.within.open_within.Goals as goal
use Rattle.verifying.proofs.within.open_within.Goals.{In_ok-apart_tests}

-- the tests of the two side by side are passed
done : (c : In_ok-apart_tests) → due c.args.suite c.args.key.now c.args.nonce.now c.args.header.now (c.args.c.now ++ c.args.tag) ≡ Ok tt
done c =
    let a = c.args in
    sym (c.in_ok-apart_tests.ensures ∙ apart_tests_lem a.suite a.key.now a.nonce.now a.header.now a.c.now a.tag (omega arith))

given : (c : In_ok-apart_tests) → Ready c.args.suite c.args.key.now c.args.nonce.now c.args.header.now (c.args.c.now ++ c.args.tag)
given c = let a = c.args in verify_ready a.suite a.key.now a.nonce.now a.header.now (a.c.now ++ a.tag) (done c)

-- the key's bytes are the key
whole : (c : In_ok-apart_tests) (k : List ℕ) → k ≡ take 16 c.args.key.now → k ≡ c.args.key.now
whole c k e = e ∙ take_all 16 c.args.key.now (le_of_eq (given c).whole)

pub block_at-key-requires : goal.block_at-key-requires
block_at-key-requires c = le_of_eq (sym (given c).whole)

pub invariant_of-setting : goal.invariant_of-setting
invariant_of-setting c =
    let g = given (goal.at.invariant_of-setting c).In_ok-apart_tests in
    record { suite_listed = g.header.usable.suite; nonce_short = g.header.usable.short }

pub invariant_of-u : goal.invariant_of-u
invariant_of-u c = record { header_short = (given (goal.at.invariant_of-u c).In_ok-apart_tests).header.small }

pub within_tested-requires : goal.within_tested-requires
within_tested-requires c =
    let a = c.args in
    let g =
    apart_passable a.suite a.key.now a.nonce.now a.header.now a.c.now a.tag (omega arith) (given (goal.at.within_tested-requires c).In_ok-apart_tests) in
    (g.1.small, c.requires)

pub returns-in_err-apart_tests : goal.returns-in_err-apart_tests
returns-in_err-apart_tests c =
    let a = c.args in
    let x = a.c.now ++ a.tag in
    let why = c.in_err-apart_tests.field-0.0 in
    let refused : due a.suite a.key.now a.nonce.now a.header.now x ≡ Err why =
    sym (c.in_err-apart_tests.ensures ∙ apart_tests_lem a.suite a.key.now a.nonce.now a.header.now a.c.now a.tag (omega arith)) in
    let p = err_from_is_err_and c.from_residual.result c.from_residual.ensures.1 in
    rw (p.1, p.2) (
      verify_outcome_lem a.suite a.key.now a.nonce.now a.header.now x (Err why) refused,
      within_buffer_lem a.suite a.key.now a.nonce.now a.header.now x a.work.now (Err why) refused,
    )

pub returns : goal.returns
returns c =
    let a = c.args in
    let x = a.c.now ++ a.tag in
    let passed = (goal.at.returns c).In_ok-apart_tests in
    let key = whole passed c.block_at-key.result c.block_at-key.ensures in (
      c.within_tested.ensures.0
          ∙ ap (λ y. by_tag a.suite y a.nonce.now a.header.now x) key
          ∙ verify_outcome_lem a.suite a.key.now a.nonce.now a.header.now x (Ok tt) (done passed),
      c.within_tested.ensures.1
          ∙ ap (λ y. held_in (Ok tt) (opened a.suite.cipher a.suite.steps y a.nonce.now a.header.now x) a.work.now) key
          ∙ within_buffer_lem a.suite a.key.now a.nonce.now a.header.now x a.work.now (Ok tt) (done passed),
    )
