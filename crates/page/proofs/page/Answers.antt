-- By what check answers.
use Rattle.std.specs.Prelude.{Err}
use mathlib.Core.Path.{sym, transport⁻¹, ◌∙◌}
use mathlib.Core.List.{◌++◌}
use Prim.Native.Nat.{◌*◌}
use native.Mathlib.Omega.{arith}
use lib.ListN.{drop}
use Rattle.bits.proofs.Lists.{part_rest}
use Rattle.std.proofs.lemmas.Result.{err_from_is_err_and}
use Rattle.kinds.specs.Kind.{kind_of}
use Rattle.opening_fields.specs.Opening.{after_opening}
use Rattle.checker.proofs.Tests.{by_tests}
use Rattle.page.specs.Page.{rows, sources_from}
use Rattle.page.specs.Units.{Units}
use Rattle.page.proofs.Pages.{units_accepted, page_refused, page_short, page_written}
use Rattle.page.proofs.page.Goals as goal

pub returns-in_err-r : goal.returns-in_err-r
returns-in_err-r c =
    let a = c.args in
    let why = c.in_err-r.field-0.0 in
    let p = err_from_is_err_and c.from_residual.result c.from_residual.ensures.1 in
    rw (p.1, p.2)
    (page_refused a.key.now a.book.now a.typed.now a.out.now why (sym (by_tests a.key.now a.book.now (Err why) c.in_err-r.ensures.tests)))

pub returns-then-out-units : goal.returns-then-out-units
returns-then-out-units c =
    let a = c.args in
    page_short a.key.now a.book.now a.typed.now a.out.now c.in_ok-totals.totals.units c.in_ok-totals.totals.calls (sym c.in_ok-totals.ensures)
    (omega (arith, c.if-out-units.true))

pub slice_bounds-write-count : goal.slice_bounds-write-count
slice_bounds-write-count c =
    (units_accepted c.args.key.now c.args.book.now c.in_ok-totals.totals.units c.in_ok-totals.totals.calls (sym c.in_ok-totals.ensures)).0

pub slice_bounds-write-start : goal.slice_bounds-write-start
slice_bounds-write-start c =
    (units_accepted c.args.key.now c.args.book.now c.in_ok-totals.totals.units c.in_ok-totals.totals.calls (sym c.in_ok-totals.ensures)).0

pub write-requires : goal.write-requires
unfolding after_opening
write-requires c =
    let a = c.args in
    let s = a.book.now in
    let m = c.in_ok-r.ensures.made in
    let count = c.in_ok-totals.totals.units in
    let told = units_accepted a.key.now s count c.in_ok-totals.totals.calls (sym c.in_ok-totals.ensures) in (
      transport⁻¹ (λ i. Units (kind_of (m.kind_is i)) (m.key_is i) (m.front_is i) count 0 (part_rest 16 s i)) told.2,
      omega (arith, c.if-out-units.false),
    )

pub returns-in_err-totals : goal.returns-in_err-totals
returns-in_err-totals c =
    let a = c.args in
    let p = err_from_is_err_and c.from_residual-in_err-totals.result c.from_residual-in_err-totals.ensures.1 in
    rw (p.1, p.2) (page_refused a.key.now a.book.now a.typed.now a.out.now c.in_err-totals.field-0.0 (sym c.in_err-totals.ensures))

pub returns : goal.returns
unfolding after_opening
returns c =
    let a = c.args in
    let s = a.book.now in
    let m = c.in_ok-r.ensures.made in
    let count = c.in_ok-totals.totals.units in
    let page =
    page_written a.key.now s a.typed.now a.out.now count c.in_ok-totals.totals.calls (sym c.in_ok-totals.ensures)
    (omega (arith, c.if-out-units.false)) in (
      page.0,
      c.write.ensures
          ∙ (λ i. rows a.typed.now (sources_from (kind_of (m.kind_is i)) (m.key_is i) (m.front_is i) count 0 (part_rest 16 s i))
          ++ drop (12 * count) a.out.now)
          ∙ page.1,
    )
