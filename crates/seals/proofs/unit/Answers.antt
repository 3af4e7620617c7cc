-- The tag, then the range.
use Rattle.std.specs.Prelude.{Ok}
use mathlib.Core.Path.{sym, ap, ◌∙◌}
use Rattle.std.proofs.lemmas.Result.{err_from_is_err_and}
use Rattle.suites.specs.declared.refusal.Refusal.TheVariants.{SegmentLength}
use Rattle.limits.specs.Tests.{unless}
use Rattle.kinds.specs.Kind.{kind_of}
use Rattle.opening_fields.specs.Opening.{opening_suite}
use Rattle.parser.proofs.Frames.{unit_told}
use Rattle.seals.proofs.Verified.{by_parts, unit_refused, unit_passed}
use Rattle.seals.proofs.unit.Goals as goal

pub returns-in_err-high : goal.returns-in_err-high
returns-in_err-high c =
    let a = c.args in
    let r = a.r.now in
    let p = err_from_is_err_and c.from_residual.result c.from_residual.ensures.1 in
    rw (p.1, p.2)
    (unit_refused r.kind r.key.now r.front.now a.n r.under a.m a.s.now (unit_told (kind_of r.kind) a.n a.m a.s.now c.requires)
    c.in_err-high.field-0.0 (sym (c.in_err-high.ensures ∙ by_parts (opening_suite r.front.now) r.key.now c.unit_parts-p.ensures)))

-- where the tag agrees
pub returns-then-not-is_text : goal.returns-then-not-is_text
returns-then-not-is_text c =
    let a = c.args in
    let r = a.r.now in
    ap (λ v. unless v SegmentLength (Ok tt)) (sym c.if-not-is_text.true ∙ c.is_text.ensures)
    ∙ unit_passed r.kind r.key.now r.front.now a.n r.under a.m a.s.now (unit_told (kind_of r.kind) a.n a.m a.s.now c.requires)
    c.in_ok-high.field-0 (sym (c.in_ok-high.ensures ∙ by_parts (opening_suite r.front.now) r.key.now c.unit_parts-p.ensures))

pub returns : goal.returns
returns c =
    let a = c.args in
    let r = a.r.now in
    ap (λ v. unless v SegmentLength (Ok tt)) (sym c.if-not-is_text.false ∙ c.is_text.ensures)
    ∙ unit_passed r.kind r.key.now r.front.now a.n r.under a.m a.s.now (unit_told (kind_of r.kind) a.n a.m a.s.now c.requires)
    c.in_ok-high.field-0 (sym (c.in_ok-high.ensures ∙ by_parts (opening_suite r.front.now) r.key.now c.unit_parts-p.ensures))
