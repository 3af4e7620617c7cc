-- The tag, then the end.
use Rattle.std.specs.Prelude.{Ok}
use mathlib.Core.Path.{sym, ap, ◌∙◌}
use native.Mathlib.Omega.{arith}
use Rattle.std.proofs.lemmas.Result.{err_from_is_err_and}
use borrow.Author.Tests.{eq-eqb, ne_eqb}
use lib.ListN.{length}
use Rattle.suites.specs.declared.refusal.Refusal.TheVariants.{FieldMalformed}
use Rattle.limits.specs.Tests.{unless}
use Rattle.kinds.specs.Kind.{kind_of}
use Rattle.parser.specs.Frame.{after_close}
use Rattle.opening_fields.specs.Opening.{opening_suite}
use Rattle.parser.proofs.Frames.{close_told}
use Rattle.seals.proofs.Verified.{by_parts, close_refused, close_passed}
use Rattle.seals.proofs.close.Goals as goal

pub returns-in_err-verify : goal.returns-in_err-verify
returns-in_err-verify c =
    let a = c.args in
    let r = a.r.now in
    let p = err_from_is_err_and c.from_residual.result c.from_residual.ensures.1 in
    rw (p.1, p.2)
    (close_refused r.kind r.key.now r.front.now a.count r.under a.s.now (close_told (kind_of r.kind) a.count a.s.now c.requires)
    c.in_err-verify.field-0.0 (sym (c.in_err-verify.ensures ∙ by_parts (opening_suite r.front.now) r.key.now c.close_parts-p.ensures)))

-- where the tag agrees
pub returns-then-s-close_len : goal.returns-then-s-close_len
returns-then-s-close_len c =
    let a = c.args in
    let r = a.r.now in
    let t = close_told (kind_of r.kind) a.count a.s.now c.requires in
    let h = c.close_len.ensures in
    ap (λ v. unless v FieldMalformed (Ok tt))
    (sym (ne_eqb (length (after_close (kind_of r.kind) a.s.now)) 0 (λ e. c.if-s-close_len.true (omega (arith, t.length_is)))))
    ∙ close_passed r.kind r.key.now r.front.now a.count r.under a.s.now t
    c.in_ok-verify.field-0 (sym (c.in_ok-verify.ensures ∙ by_parts (opening_suite r.front.now) r.key.now c.close_parts-p.ensures))

pub returns : goal.returns
returns c =
    let a = c.args in
    let r = a.r.now in
    let t = close_told (kind_of r.kind) a.count a.s.now c.requires in
    let h = c.close_len.ensures in
    ap (λ v. unless v FieldMalformed (Ok tt))
    (sym (eq-eqb (length (after_close (kind_of r.kind) a.s.now)) 0 (omega (arith, t.length_is))))
    ∙ close_passed r.kind r.key.now r.front.now a.count r.under a.s.now t
    c.in_ok-verify.field-0 (sym (c.in_ok-verify.ensures ∙ by_parts (opening_suite r.front.now) r.key.now c.close_parts-p.ensures))
