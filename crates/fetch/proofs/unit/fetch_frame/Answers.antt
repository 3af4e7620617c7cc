-- By cases on the frame.
use Rattle.parser.specs.declared.frame.Frame.TheVariants.{Close, Unit}
use Rattle.std.specs.Prelude.{Ok, Err}
use mathlib.Core.Path.{refl, sym, ap}
use mathlib.Core.List.{[]}
use Prim.Native.Nat.{◌+◌}
use borrow.Author.Rules.{rules}
use lib.ListN.{length}
use Rattle.suites.specs.declared.refusal.Refusal.TheVariants.{NoSuchUnit}
use Rattle.kinds.specs.Kind.{kind_of}
use Rattle.kinds.specs.Lengths.{frame_length}
use Rattle.parser.proofs.Frames.{unit_told}
use Rattle.seals.specs.Seal.{close_seal_tests, unit_opened}
use Rattle.fetch.specs.Fetch.{and_then, unit_outcome, close_met, placed_report}
use Rattle.fetch.proofs.Handed.{none_left, hands_next, frame_hands}
use Rattle.std.proofs.lemmas.Result.{err_from_is_err_and}
use Rattle.checker.proofs.Turns.{frame_is}
use Rattle.fetch.specs.Hands.{with_next}
use Rattle.fetch.proofs.unit.fetch_frame.Goals as goal

pub unit_len-requires : goal.unit_len-requires
unit_len-requires c = let t = unit_told (kind_of c.args.r.now.kind) c.args.n c.in-Unit.m c.args.s.now (sym (frame_is c.in-Unit.is c.in_ok-at.ensures)) in search rules

pub overflow_add-result : goal.overflow_add-result
overflow_add-result c =
    let t = unit_told (kind_of c.args.r.now.kind) c.args.n c.in-Unit.m c.args.s.now (sym (frame_is c.in-Unit.is c.in_ok-at.ensures)) in
    let h = c.requires in
    search rules

pub returns-in_err-at : goal.returns-in_err-at
returns-in_err-at c =
    let a = c.args in
    let r = a.r.now in
    let p = err_from_is_err_and c.from_residual.result c.from_residual.ensures.1 in
    rw (p.1, p.2)
    (frame_hands (kind_of r.kind) r.key.now r.front.now a.n a.at a.s.now a.out.now (Err c.in_err-at.field-0.0) (sym c.in_err-at.ensures) (refl, refl))

pub returns-in_err-close-in-Close : goal.returns-in_err-close-in-Close
unfolding close_met
returns-in_err-close-in-Close c =
    let a = c.args in
    let r = a.r.now in
    let p = err_from_is_err_and c.from_residual-in_err-close-in-Close.result c.from_residual-in_err-close-in-Close.ensures.1 in
    rw (p.1, p.2)
    (frame_hands (kind_of r.kind) r.key.now r.front.now a.n a.at a.s.now a.out.now (Ok Close) (sym (frame_is c.in-Close.is c.in_ok-at.ensures)) (
      ap (λ v. placed_report (and_then v (Err NoSuchUnit)) [] 0) c.in_err-close-in-Close.ensures,
      none_left (close_seal_tests (kind_of r.kind) r.key.now r.front.now a.n a.s.now) a.out.now,
    ))

pub returns-in_ok-close-in-Close : goal.returns-in_ok-close-in-Close
unfolding close_met
returns-in_ok-close-in-Close c =
    let a = c.args in
    let r = a.r.now in
    frame_hands (kind_of r.kind) r.key.now r.front.now a.n a.at a.s.now a.out.now (Ok Close) (sym (frame_is c.in-Close.is c.in_ok-at.ensures)) (
      ap (λ v. placed_report (and_then v (Err NoSuchUnit)) [] 0) c.in_ok-close-in-Close.ensures,
      none_left (close_seal_tests (kind_of r.kind) r.key.now r.front.now a.n a.s.now) a.out.now,
    )

pub returns-in_err-lengths-in-Unit : goal.returns-in_err-lengths-in-Unit
returns-in_err-lengths-in-Unit c =
    let a = c.args in
    let r = a.r.now in
    let m = c.in-Unit.m in
    let kind = kind_of r.kind in
    let next = a.at + frame_length kind m in
    let p = err_from_is_err_and c.from_residual-in_err-lengths-in-Unit.result c.from_residual-in_err-lengths-in-Unit.ensures.1 in
    rw (p.1, p.2)
    (frame_hands kind r.key.now r.front.now a.n a.at a.s.now a.out.now (Ok (Unit m)) (sym (frame_is c.in-Unit.is c.in_ok-at.ensures))
    (hands_next (unit_outcome kind r.key.now r.front.now a.n m a.s.now (length a.out.now))
    (unit_opened kind r.key.now r.front.now a.n m a.s.now) a.out.now next next
    c.unit.ensures (ap (λ v. with_next v next) (sym c.in_err-lengths-in-Unit.was)) refl))

pub returns-in_ok-lengths-in-Unit : goal.returns-in_ok-lengths-in-Unit
returns-in_ok-lengths-in-Unit c =
    let a = c.args in
    let r = a.r.now in
    let m = c.in-Unit.m in
    let kind = kind_of r.kind in
    let next = a.at + c.unit_len.result in
    frame_hands kind r.key.now r.front.now a.n a.at a.s.now a.out.now (Ok (Unit m)) (sym (frame_is c.in-Unit.is c.in_ok-at.ensures))
    (hands_next (unit_outcome kind r.key.now r.front.now a.n m a.s.now (length a.out.now))
    (unit_opened kind r.key.now r.front.now a.n m a.s.now) a.out.now next (a.at + frame_length kind m)
    c.unit.ensures (ap (λ v. with_next v next) (sym c.in_ok-lengths-in-Unit.was)) (ap (λ n. a.at + n) c.unit_len.ensures.is))
