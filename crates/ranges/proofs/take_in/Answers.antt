-- The loop has taken c of the first j trigrams.
use mathlib.Core.Path.{◌≡◌, ap, ◌∙◌}
use mathlib.Core.List.{◌∷◌}
use Prim.Native.Nat.{◌+◌, ◌-◌, ◌%◌}
use native.Mathlib.Omega.{arith}
use lib.ListN.{get_or, drop, length-set}
use Rattle.trigrams.specs.Trigrams.{trigrams}
use Rattle.trigrams.specs.Taken.{taken}
use Rattle.trigrams.proofs.Trigrams.{drop_next, drop_trigrams_all}
use Rattle.trigrams.proofs.Taken.{taken_nil}
use Rattle.ranges.specs.Ranges.{held}
use Rattle.ranges.proofs.Counts.{take_other, take_none, take_one_lem}
use Rattle.ranges.proofs.take_in.Goals as goal
use Rattle.ranges.proofs.take_in.Goals.{then-v-range+then-n-gt0, then-v-range+else-n-gt0, else-v-range}

pub loop-j-preserved : goal.loop-j-preserved
loop-j-preserved c =
    let range = c.args.range in
    let counts = c.loop-j.counts in
    let v = c.at-v.result in
    let y = drop (c.loop-j.j + 1) (trigrams c.args.b.now) in
    let rest : drop c.loop-j.j (trigrams c.args.b.now) ≡ c.at-v.result ∷ y =
    drop_next c.args.b.now c.loop-j.j c.at-v.result (omega arith) c.at-v.ensures.is in
    let all = ap (taken (held range counts)) rest in
    let p = c.loop-j.invariant in
    elim c.if-v-range.branch [
      | then-v-range+then-n-gt0 w ↦ rw (w.counts-is, w.c-is) (record {
        few = omega arith;
        long = length-set counts (v % 4096) (get_or counts (v % 4096) 0 - 1) ∙ p.long;
        all = omega (arith, p.all, all, take_one_lem range counts v y p.long w.if-v-range.true w.if-n-gt0.true);
      })
      | then-v-range+else-n-gt0 w ↦ rw (w.counts-is, w.c-is) (record {
        few = omega arith;
        long = p.long;
        all = omega (arith, p.all, all, take_none range counts v y w.if-v-range.true (omega arith));
      })
      | else-v-range w ↦ rw (w.counts-is, w.c-is) (record {
        few = omega arith;
        long = p.long;
        all = omega (arith, p.all, all, take_other range counts v y w.if-v-range.false);
      })
    ]

pub returns : goal.returns
returns c =
    let m = held c.args.range c.loop-j.counts in
    omega (arith, c.loop-j.invariant.all, ap (taken m) (drop_trigrams_all c.args.b.now c.loop-j.j (omega arith)), taken_nil m)
