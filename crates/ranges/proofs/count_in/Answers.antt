-- The loop has counted the first i trigrams.
use native.Mathlib.Omega.{arith}
use lib.ListN.{length-take}
use Rattle.trigrams.specs.Trigrams.{trigrams}
use Rattle.trigrams.proofs.Trigrams.{take_next, take_trigrams_all}
use Rattle.ranges.proofs.Counts.{counted_more, counted_other, counted_le}
use Rattle.ranges.proofs.count_in.Goals as goal
use Rattle.ranges.proofs.count_in.Goals.{then-v-range, else-v-range}

pub overflow_add-counts : goal.overflow_add-counts
overflow_add-counts c =
    let s = trigrams c.args.a.now in
    omega (arith, counted_le c.loop-i.invariant c.at-v.result c.if-v-range.true, length-take c.loop-i.i s)

pub loop-i-preserved : goal.loop-i-preserved
loop-i-preserved c =
    let v = c.at-v.result in
    rw (take_next c.args.a.now c.loop-i.i v (omega arith) c.at-v.ensures.is)
    (elim c.if-v-range.branch [
      | then-v-range w ↦ rw w.counts-is (counted_more c.loop-i.invariant v w.if-v-range.true)
      | else-v-range w ↦ rw w.counts-is (counted_other c.loop-i.invariant v w.if-v-range.false)
    ])

pub returns : goal.returns
returns c =
    rw (take_trigrams_all c.args.a.now c.loop-i.i (omega arith)) at c.loop-i.invariant
