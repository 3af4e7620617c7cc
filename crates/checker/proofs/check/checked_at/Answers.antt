-- By cases on the frame.
use Rattle.parser.specs.FrameAnswer.{FrameAnswer}
use Rattle.parser.specs.declared.frame.Frame.TheVariants.{Close, Unit}
use Rattle.std.specs.Prelude.{Ok, Err}
use mathlib.Core.Path.{◌≡◌, ap, ◌∙◌}
use Prim.Native.Nat.{ℕ}
use Rattle.kinds.specs.Kind.{kind_of}
use Rattle.parser.specs.Frame.{frame_of}
use Rattle.seals.specs.Seal.{unit_seal_tests, close_seal_tests}
use Rattle.checker.specs.Check.{with_seal, checked_at}
use mathlib.Core.List.{List}
use Rattle.fields.specs.Kind.{Kind}
use Rattle.parser.specs.Frame.{frame_at}
use Rattle.std.proofs.lemmas.Result.{err_from_is_err_and}
use Rattle.checker.proofs.Turns.{frame_is}
use Rattle.checker.proofs.check.checked_at.Goals as goal

-- with the seal of the frame that was read
with_frame : (kind : Kind) (key o : List ℕ) (n : ℕ) (s : List ℕ) (f : FrameAnswer) → f ≡ frame_at kind n s
    → with_seal f (λ (m : ℕ). unit_seal_tests kind key o n m s) (close_seal_tests kind key o n s) ≡ checked_at kind key o n s
unfolding checked_at
with_frame kind key o n s f e = ap (λ g. with_seal g (λ (m : ℕ). unit_seal_tests kind key o n m s) (close_seal_tests kind key o n s)) e

pub returns-in_err-frame : goal.returns-in_err-frame
returns-in_err-frame c =
    let a = c.args in
    let r = a.r.now in
    let p = err_from_is_err_and c.from_residual.result c.from_residual.ensures.1 in
    rw (p.1, p.2) (with_frame (kind_of r.kind) r.key.now r.front.now a.n a.s.now (Err c.in_err-frame.field-0.0) c.in_err-frame.ensures)

pub returns-in_err-close-in-Close : goal.returns-in_err-close-in-Close
returns-in_err-close-in-Close c =
    let a = c.args in
    let r = a.r.now in
    let p = err_from_is_err_and c.from_residual-in_err-close-in-Close.result c.from_residual-in_err-close-in-Close.ensures.1 in
    rw (p.1, p.2)
    (ap (λ v. frame_of v (Ok Close)) c.in_err-close-in-Close.ensures
    ∙ with_frame (kind_of r.kind) r.key.now r.front.now a.n a.s.now (Ok Close) (frame_is c.in-Close.is c.in_ok-frame.ensures))

pub returns-in_err-unit-in-Unit : goal.returns-in_err-unit-in-Unit
returns-in_err-unit-in-Unit c =
    let a = c.args in
    let r = a.r.now in
    let m = c.in-Unit.m in
    let p = err_from_is_err_and c.from_residual-in_err-unit-in-Unit.result c.from_residual-in_err-unit-in-Unit.ensures.1 in
    rw (p.1, p.2)
    (ap (λ v. frame_of v (Ok (Unit m))) c.in_err-unit-in-Unit.ensures
    ∙ with_frame (kind_of r.kind) r.key.now r.front.now a.n a.s.now (Ok (Unit m)) (frame_is c.in-Unit.is c.in_ok-frame.ensures))

pub returns-in_ok-close-in-Close : goal.returns-in_ok-close-in-Close
returns-in_ok-close-in-Close c =
    let a = c.args in
    let r = a.r.now in
    ap Ok c.in-Close.is
    ∙ ap (λ v. frame_of v (Ok Close)) c.in_ok-close-in-Close.ensures
    ∙ with_frame (kind_of r.kind) r.key.now r.front.now a.n a.s.now (Ok Close) (frame_is c.in-Close.is c.in_ok-frame.ensures)

pub returns-in_ok-unit-in-Unit : goal.returns-in_ok-unit-in-Unit
returns-in_ok-unit-in-Unit c =
    let a = c.args in
    let r = a.r.now in
    let m = c.in-Unit.m in
    ap (λ v. frame_of v (Ok (Unit m))) c.in_ok-unit-in-Unit.ensures
    ∙ with_frame (kind_of r.kind) r.key.now r.front.now a.n a.s.now (Ok (Unit m)) (frame_is c.in-Unit.is c.in_ok-frame.ensures)
