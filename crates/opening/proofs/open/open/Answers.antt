-- The tests, then the tag and the text.
use mathlib.Core.Path.{◌≡◌, sym, ◌∙◌}
use native.Mathlib.Nat.{le_of_eq}
use mathlib.Core.List.{List}
use Prim.Native.Nat.{ℕ}
use lib.ListN.{take}
use lib.Seq.{take_all}
use Rattle.std.proofs.lemmas.Result.{err_from_is_err_and}
use Rattle.opening.proofs.Answers.{Ready, open_refused, open_ready, open_room, open_compared}
use Rattle.opening.proofs.open.open.Goals as goal
use Rattle.opening.proofs.open.open.Goals.{In_ok-open_tests}

-- what the tests leave true
given : (c : In_ok-open_tests) → Ready c.args.suite c.args.key.now c.args.nonce.now c.args.header.now c.args.sealed.now
given c =
    open_ready c.args.suite c.args.key.now c.args.nonce.now c.args.header.now c.args.sealed.now c.args.out.now (sym c.in_ok-open_tests.ensures)

-- the key's bytes are the key
whole : (c : In_ok-open_tests) (k : List ℕ) → k ≡ take 16 c.args.key.now → k ≡ c.args.key.now
whole c k e = e ∙ take_all 16 c.args.key.now (le_of_eq (given c).whole)

pub returns-in_err-open_tests : goal.returns-in_err-open_tests
returns-in_err-open_tests c =
    let a = c.args in
    let p = err_from_is_err_and c.from_residual.result c.from_residual.ensures.1 in
    rw (p.1, p.2)
    (open_refused a.suite a.key.now a.nonce.now a.header.now a.sealed.now a.out.now c.in_err-open_tests.field-0.0 (sym c.in_err-open_tests.ensures))

pub block_at-key-requires : goal.block_at-key-requires
block_at-key-requires c = le_of_eq (sym (given c).whole)

pub invariant_of-setting : goal.invariant_of-setting
invariant_of-setting c =
    let g = given (goal.at.invariant_of-setting c).In_ok-open_tests in
    record { suite_listed = g.header.usable.suite; nonce_short = g.header.usable.short }

pub invariant_of-u : goal.invariant_of-u
invariant_of-u c = record { header_short = (given (goal.at.invariant_of-u c).In_ok-open_tests).header.small }

pub open_tested-requires : goal.open_tested-requires
open_tested-requires c =
    let a = c.args in
    let g = given (goal.at.open_tested-requires c).In_ok-open_tests in
    record {
      small = g.text.small;
      long = g.long;
      room = open_room a.suite a.key.now a.nonce.now a.header.now a.sealed.now a.out.now (sym c.in_ok-open_tests.ensures);
    }

pub overflow_sub-result : goal.overflow_sub-result
overflow_sub-result c = (given (goal.at.overflow_sub-result c).In_ok-open_tests).long

pub returns-in_err-open_tested : goal.returns-in_err-open_tested
returns-in_err-open_tested c =
    let a = c.args in
    let p = err_from_is_err_and c.from_residual-in_err-open_tested.result c.from_residual-in_err-open_tested.ensures.1 in
    rw (p.1, p.2)
    (open_compared a.suite a.key.now a.nonce.now a.header.now a.sealed.now a.out.now (sym c.in_ok-open_tests.ensures)
    (whole (goal.at.returns-in_err-open_tested c).In_ok-open_tests c.block_at-key.result c.block_at-key.ensures)
    c.in_err-open_tested.ensures)

pub returns : goal.returns
returns c =
    let a = c.args in
    open_compared a.suite a.key.now a.nonce.now a.header.now a.sealed.now a.out.now (sym c.in_ok-open_tests.ensures)
    (whole (goal.at.returns c).In_ok-open_tests c.block_at-key.result c.block_at-key.ensures)
    c.in_ok-open_tested.ensures
