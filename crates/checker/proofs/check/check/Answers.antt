-- The tests, then the frames.
use mathlib.Core.Path.{sym, ◌∙◌}
use Prim.Native.Nat.{suc}
use borrow.Author.Rules.{rules}
use Rattle.kinds.specs.Kind.{kind_of}
use Rattle.parser.specs.Frame.{most_units}
use Rattle.opening_fields.specs.Opening.{after_opening}
use Rattle.std.proofs.lemmas.Result.{err_from_is_err_and}
use Rattle.bits.proofs.Lists.{part_rest}
use Rattle.seals.proofs.Tested.{tested_under}
use Rattle.checker.specs.Check.{check_from}
use Rattle.checker.proofs.Tests.{by_tests}
use Rattle.checker.proofs.check.check.Goals as goal

pub slice_bounds-check_from-count : goal.slice_bounds-check_from-count
slice_bounds-check_from-count c = (tested_under c.args.key.now c.args.book.now (sym c.in_ok-r.ensures.tests)).0

pub slice_bounds-check_from-start : goal.slice_bounds-check_from-start
slice_bounds-check_from-start c = let h = (tested_under c.args.key.now c.args.book.now (sym c.in_ok-r.ensures.tests)).0 in search rules

pub returns-in_err-r : goal.returns-in_err-r
returns-in_err-r c =
    let p = err_from_is_err_and c.from_residual.result c.from_residual.ensures.1 in
    rw (p.1, p.2) (by_tests c.args.key.now c.args.book.now _ c.in_err-r.ensures.tests)

pub returns : goal.returns
unfolding after_opening
returns c =
    let key = c.args.key.now in
    let s = c.args.book.now in
    let m = c.in_ok-r.ensures.made in
    c.check_from.ensures
    ∙ (λ i. check_from (kind_of (m.kind_is i)) (m.key_is i) (m.front_is i) (suc most_units) 0 0 (part_rest 16 s i))
    ∙ by_tests key s _ c.in_ok-r.ensures.tests
