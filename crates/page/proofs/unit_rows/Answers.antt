-- The loop has put the rows of n units, and goes on from the place behind them.
use mathlib.Core.Path.{◌≡◌, sym, ap, subst, ◌∙◌}
use mathlib.Core.List.{List}
use Prim.Native.Nat.{ℕ, ◌+◌, ◌-◌, ◌*◌, ◌≤◌}
use native.Mathlib.Omega.{arith}
use lib.ListN.{length, take, drop, length-drop}
use lib.Seq.{length-take-le}
use Rattle.bits.proofs.Lists.{part_rest}
use Rattle.kinds.specs.Kind.{kind_of}
use Rattle.kinds.specs.Lengths.{frame_length}
use Rattle.page.specs.Page.{ciphertext_length, source_at, row}
use Rattle.page.specs.Units.{UnitThere}
use Rattle.page.proofs.Done.{done_there, done_within, done_more, done_all}
use Rattle.page.proofs.unit_rows.Goals as goal

pub unit_row-step-requires : goal.unit_row-step-requires
unit_row-step-requires c =
    let a = c.args in
    let r = a.r.now in
    let h = c.loop-n in
    -- there is room for one row more
    let room : 12 * h.n + 12 ≤ length h.out = omega (arith, h.invariant.done.at_is, h.invariant.done.long, c.requires.2) in
    let there : UnitThere (kind_of r.kind) r.key.now r.front.now h.n (drop h.place a.s.now) =
    done_there r.kind r.key.now r.front.now a.prepared.now.typed.now a.s.now a.units a.out.now r.under h.invariant.done (omega arith) in (
      subst (UnitThere (kind_of r.kind) r.key.now r.front.now h.n) (sym (part_rest h.place a.s.now)) there,
      omega (arith, h.invariant.room, c.requires.1),
      length-take-le (12 * h.n + 12 - 12 * h.n) (drop (12 * h.n) h.out) (rw length-drop (omega (arith, room))) ∙ omega arith,
    )

pub overflow_add-place : goal.overflow_add-place
overflow_add-place c =
    let a = c.args in
    let r = a.r.now in
    let h = c.loop-n in
    let step_is : c.unit_row-step.result ≡ frame_length (kind_of r.kind) (ciphertext_length (kind_of r.kind) (drop h.place a.s.now)) =
    c.unit_row-step.ensures.step
    ∙ ap (λ (x : List ℕ). frame_length (kind_of r.kind) (ciphertext_length (kind_of r.kind) x)) (part_rest h.place a.s.now) in
    let within =
    done_within r.kind r.key.now r.front.now a.prepared.now.typed.now a.s.now a.units a.out.now r.under h.invariant.done (omega arith) in
    let stepped : h.place + c.unit_row-step.result ≤ length a.s.now = omega (arith, step_is, within) in
    record { fits = omega (arith, stepped, c.well_formed.1.1.1.1.0.0) }

pub loop-n-preserved : goal.loop-n-preserved
loop-n-preserved c =
    let a = c.args in
    let r = a.r.now in
    let h = c.loop-n in
    let room : 12 * h.n + 12 ≤ length h.out = omega (arith, h.invariant.done.at_is, h.invariant.done.long, c.requires.2) in
    let kind = kind_of r.kind in
    let line-is : c.unit_row-step.new.out ≡ row a.prepared.now.typed.now (source_at kind r.key.now r.front.now h.n (drop h.place a.s.now)) =
    c.unit_row-step.ensures.put
    ∙ ap (λ (t : List ℕ). row t (source_at kind r.key.now r.front.now h.n (take (length a.s.now - h.place) (drop h.place a.s.now))))
    h.invariant.prepared
    ∙ ap (λ (x : List ℕ). row a.prepared.now.typed.now (source_at kind r.key.now r.front.now h.n x)) (part_rest h.place a.s.now) in
    let step_is : c.unit_row-step.result ≡ frame_length (kind_of r.kind) (ciphertext_length (kind_of r.kind) (drop h.place a.s.now)) =
    c.unit_row-step.ensures.step
    ∙ ap (λ (x : List ℕ). frame_length (kind_of r.kind) (ciphertext_length (kind_of r.kind) x)) (part_rest h.place a.s.now) in
    let more =
    done_more r.kind r.key.now r.front.now a.prepared.now.typed.now a.s.now a.units a.out.now r.under h.invariant.done
    (omega arith) c.unit_row-step.new.out line-is room in
    let on : 12 * (h.n + 1) ≡ 12 * h.n + 12 = omega arith in
    record {
      done = rw (step_is, on) more;
      prepared = c.unit_row-step.ensures.prepared ∙ h.invariant.prepared;
      room = c.unit_row-step.ensures.room ∙ h.invariant.room;
    }

pub returns : goal.returns
returns c =
    let a = c.args in
    let r = a.r.now in
    let h = c.loop-n in
    done_all r.kind r.key.now r.front.now a.prepared.now.typed.now a.s.now a.units a.out.now h.invariant.done (omega arith)
