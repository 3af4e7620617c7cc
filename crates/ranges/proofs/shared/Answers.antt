-- The loop has added the ranges before the next one.
use mathlib.Core.Path.{◌≡◌, sym, ap, ◌∙◌}
use Prim.Native.Nat.{◌+◌}
use native.Mathlib.Omega.{arith}
use Rattle.bits.specs.Bytes.{Bytes}
use Rattle.trigrams.specs.Trigrams.{trigrams}
use Rattle.ranges.specs.Ranges.{shared_below}
use Rattle.ranges.proofs.Ranges.{below_none, below_more, below_all, below_le}
use Rattle.ranges.proofs.Marks.{marked_out}
use Rattle.ranges.proofs.shared.Goals as goal
use Rattle.ranges.proofs.shared.Goals.{then-marked, else-marked}

pub loop-range-init : goal.loop-range-init
loop-range-init c =
    sym (below_none (trigrams c.args.a.now) (trigrams c.args.b.now))

pub overflow_add-c : goal.overflow_add-c
overflow_add-c c =
    let bytes : Bytes c.args.b.now = record { fit = λ i. omega (arith, c.type_inv.b i) } in
    let a = trigrams c.args.a.now in
    let b = trigrams c.args.b.now in
    let more : c.loop-range.c + c.shared_in-c.result ≡ shared_below (c.loop-range.range + 1) a b =
    omega (arith, c.loop-range.invariant, c.shared_in-c.ensures, below_more a b c.loop-range.range) in
    omega (arith, more, below_le (trigrams c.args.a.now) bytes (c.loop-range.range + 1) (omega (arith, c.mark.ensures.long)), c.well_formed.1.0)

pub loop-range-preserved : goal.loop-range-preserved
loop-range-preserved c =
    let a = trigrams c.args.a.now in
    let b = trigrams c.args.b.now in
    elim c.if-marked.branch [
      | then-marked w ↦ omega (arith, w.c-is, c.loop-range.invariant, w.shared_in-c.ensures, below_more a b c.loop-range.range)
      | else-marked w ↦ omega (
        arith,
        w.c-is,
        c.loop-range.invariant,
        below_more a b c.loop-range.range,
        marked_out c.mark.ensures c.loop-range.range w.if-marked.false b,
      )
    ]

pub returns : goal.returns
returns c =
    let bytes : Bytes c.args.b.now = record { fit = λ i. omega (arith, c.type_inv.b i) } in
    let a = trigrams c.args.a.now in
    let b = trigrams c.args.b.now in
    let e : c.loop-range.range ≡ 4096 = omega (arith, c.mark.ensures.long) in
    c.loop-range.invariant ∙ ap (λ n. shared_below n a b) e ∙ below_all a bytes
