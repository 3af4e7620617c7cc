-- The tests, then the sealed bytes in the text's place.
use mathlib.Core.Path.{◌≡◌, sym, ap, ◌∙◌}
use mathlib.Core.List.{List, ◌++◌}
use Prim.Native.Nat.{ℕ, ◌+◌}
use native.Mathlib.Nat.{le_of_eq}
use native.Mathlib.Omega.{arith}
use lib.ListN.{take, drop}
use lib.Seq.{take_all, length-take-le}
use Rattle.std.proofs.lemmas.Result.{err_from_is_err_and}
use Rattle.sealing.specs.Seal.{sealed, in_place_outcome, in_place_answer, in_place_buffer, made_sealed}
use Rattle.sealing.proofs.Sealed.{Passed, passed, seal_refused, seal_done}
use Rattle.sealing.proofs.seal.seal_in_place.Goals as goal
use Rattle.sealing.proofs.seal.seal_in_place.Goals.{In_ok-seal_tests}

-- what the tests leave true
given : (c : In_ok-seal_tests) → Passed c.args.suite c.args.key.now c.args.nonce.now c.args.header.now c.args.m c.args.out.now
given c = passed c.args.suite c.args.key.now c.args.nonce.now c.args.header.now c.args.m c.args.out.now (sym c.in_ok-seal_tests.ensures)

pub returns-in_err-seal_tests : goal.returns-in_err-seal_tests
unfolding in_place_outcome in_place_answer in_place_buffer
returns-in_err-seal_tests c =
    let a = c.args in
    let p = err_from_is_err_and c.from_residual.result c.from_residual.ensures.1 in
    rw (p.1, p.2)
    (seal_refused a.suite a.key.now a.nonce.now a.header.now a.m a.out.now c.in_err-seal_tests.field-0.0
    (sym c.in_err-seal_tests.ensures) (take a.m a.out.now))

pub invariant_of-setting : goal.invariant_of-setting
invariant_of-setting c =
    let g = given (goal.at.invariant_of-setting c).In_ok-seal_tests in
    record { suite_listed = g.header.usable.suite; nonce_short = g.header.usable.short }

pub invariant_of-u : goal.invariant_of-u
invariant_of-u c = record { header_short = (given (goal.at.invariant_of-u c).In_ok-seal_tests).header.small }

pub block_at-key-requires : goal.block_at-key-requires
block_at-key-requires c = le_of_eq (sym (given c).whole)

pub seal_there-requires : goal.seal_there-requires
seal_there-requires c = let g = given (goal.at.seal_there-requires c).In_ok-seal_tests in (g.small, g.room)

pub returns : goal.returns
unfolding in_place_outcome in_place_answer in_place_buffer
returns c =
    let a = c.args in
    let g = given (goal.at.returns c).In_ok-seal_tests in
    let t = (take a.m a.out.now) in
    let is =
    seal_done a.suite a.key.now a.nonce.now a.header.now a.m a.out.now (sym c.in_ok-seal_tests.ensures) t
    (length-take-le a.m a.out.now (omega (arith, g.room))) in
    let key : c.block_at-key.result ≡ a.key.now = c.block_at-key.ensures ∙ take_all 16 a.key.now (le_of_eq g.whole) in (
      (λ j. made_sealed (c.seal_there.ensures.0 j) (c.seal_there.ensures.1 j)) ∙ is.0,
      c.seal_there.ensures.2
          ∙ ap (λ (x : List ℕ). sealed a.suite.cipher a.suite.steps x a.nonce.now a.header.now t ++ drop (a.m + 16) a.out.now) key
          ∙ is.1,
    )
