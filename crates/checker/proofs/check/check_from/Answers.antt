-- The loop has read n units, and goes on from the place behind them.
use Rattle.parser.specs.FrameAnswer.{FrameAnswer}
use Rattle.parser.specs.declared.frame.Frame.TheVariants.{Close, Unit}
use Rattle.std.specs.Prelude.{Ok, Err}
use mathlib.Core.Path.{◌≡◌, sym, ap, ◌∙◌}
use Prim.Native.Nat.{ℕ, ◌+◌, ◌-◌, ◌≤◌}
use native.Mathlib.Omega.{arith}
use borrow.Author.Rules.{rules}
use lib.ListN.{length, take, drop, length-drop}
use Rattle.kinds.specs.Kind.{kind_of}
use Rattle.kinds.specs.Lengths.{frame_length}
use Rattle.parser.proofs.Frames.{UnitTold}
use Rattle.checker.specs.Check.{checked_at, accepted}
use Rattle.std.proofs.lemmas.Result.{err_from_is_err_and}
use Rattle.bits.proofs.Lists.{part_rest}
use Rattle.checker.proofs.Turns.{frame_is, unit_there, check_at_place, turn_refused, turn_close, turn_unit}
use mathlib.Core.List.{List}
use Rattle.fields.specs.Kind.{Kind}
use Rattle.checker.proofs.check.check_from.Goals as goal

-- what was read at a place
read : (kind : Kind) (key o : List ℕ) (place n : ℕ) (s : List ℕ) (f : FrameAnswer) → f ≡ checked_at kind key o n (take (length s - place) (drop place s))
    → checked_at kind key o n (drop place s) ≡ f
read kind key o place n s f e = sym (e ∙ ap (checked_at kind key o n) (part_rest place s))

-- where a unit that was read ends
room : (kind : Kind) (place n m : ℕ) (s : List ℕ) → place ≤ length s → UnitTold kind n m (drop place s) → place + frame_length kind m ≤ length s
room kind place n m s h told = omega (arith, told.length_is, length-drop place s)

pub returns-in_err-checked_at : goal.returns-in_err-checked_at
returns-in_err-checked_at c =
    let a = c.args in
    let r = a.r.now in
    let l = c.loop-m in
    let kind = kind_of r.kind in
    let why = c.in_err-checked_at.field-0.0 in
    let p = err_from_is_err_and c.from_residual.result c.from_residual.ensures.1 in
    rw (p.1, p.2)
    (sym (turn_refused kind r.key.now r.front.now l.place l.n l.total a.s.now l.invariant.1 why
    (read kind r.key.now r.front.now l.place l.n a.s.now (Err why) c.in_err-checked_at.ensures))
    ∙ l.invariant.2)

pub returns-in-Close : goal.returns-in-Close
returns-in-Close c =
    let a = c.args in
    let r = a.r.now in
    let l = c.loop-m in
    let kind = kind_of r.kind in
    ap (λ x. accepted l.n (l.total + x)) c.close_calls.ensures.is
    ∙ sym (turn_close kind r.key.now r.front.now l.place l.n l.total a.s.now l.invariant.1
    (read kind r.key.now r.front.now l.place l.n a.s.now (Ok Close) (frame_is c.in-Close.is c.in_ok-checked_at.ensures)))
    ∙ l.invariant.2

-- a unit that was read
pub unit_len-place-requires : goal.unit_len-place-requires
unit_len-place-requires c =
    let a = c.args in
    let r = a.r.now in
    let l = c.loop-m in
    let kind = kind_of r.kind in
    let m = c.in-Unit.m in
    let t = unit_there kind r.key.now r.front.now l.n m (drop l.place a.s.now)
    (read kind r.key.now r.front.now l.place l.n a.s.now (Ok (Unit m)) (frame_is c.in-Unit.is c.in_ok-checked_at.ensures)) in
    search rules

pub overflow_add-place : goal.overflow_add-place
overflow_add-place c =
    let a = c.args in
    let r = a.r.now in
    let l = c.loop-m in
    let kind = kind_of r.kind in
    let m = c.in-Unit.m in
    let t = unit_there kind r.key.now r.front.now l.n m (drop l.place a.s.now)
    (read kind r.key.now r.front.now l.place l.n a.s.now (Ok (Unit m)) (frame_is c.in-Unit.is c.in_ok-checked_at.ensures)) in
    let h = room kind l.place l.n m a.s.now l.invariant.0 t in
    search rules

pub unit_calls-total-requires : goal.unit_calls-total-requires
unit_calls-total-requires c =
    let a = c.args in
    let r = a.r.now in
    let l = c.loop-m in
    let kind = kind_of r.kind in
    let m = c.in-Unit.m in
    let t = unit_there kind r.key.now r.front.now l.n m (drop l.place a.s.now)
    (read kind r.key.now r.front.now l.place l.n a.s.now (Ok (Unit m)) (frame_is c.in-Unit.is c.in_ok-checked_at.ensures)) in
    search rules

pub loop-m-smaller : goal.loop-m-smaller
loop-m-smaller c =
    let a = c.args in
    let r = a.r.now in
    let l = c.loop-m in
    let kind = kind_of r.kind in
    let m = c.in-Unit.m in
    let t = unit_there kind r.key.now r.front.now l.n m (drop l.place a.s.now)
    (read kind r.key.now r.front.now l.place l.n a.s.now (Ok (Unit m)) (frame_is c.in-Unit.is c.in_ok-checked_at.ensures)) in
    let h = room kind l.place l.n m a.s.now l.invariant.0 t in
    omega (arith, c.unit_len-place.ensures.is)

pub loop-m-preserved : goal.loop-m-preserved
loop-m-preserved c =
    let a = c.args in
    let r = a.r.now in
    let l = c.loop-m in
    let kind = kind_of r.kind in
    let m = c.in-Unit.m in
    let there = read kind r.key.now r.front.now l.place l.n a.s.now (Ok (Unit m)) (frame_is c.in-Unit.is c.in_ok-checked_at.ensures) in
    let t = unit_there kind r.key.now r.front.now l.n m (drop l.place a.s.now) there in (
      omega (arith, room kind l.place l.n m a.s.now l.invariant.0 t, c.unit_len-place.ensures.is),
      omega arith,
      (λ i. check_at_place kind r.key.now r.front.now (l.place + c.unit_len-place.ensures.is i) (l.n + 1)
          (l.total + c.unit_calls-total.ensures.is i) a.s.now)
          ∙ sym (turn_unit kind r.key.now r.front.now l.place l.n l.total a.s.now l.invariant.1 m there)
          ∙ l.invariant.2,
      omega (arith, c.unit_calls-total.ensures.short),
    )
