-- The trigram's node is found, or there is none and one is made.
use Rattle.std.proofs.Common.{rules}
use mathlib.Core.Path.{sym, ap, ◌∙◌}
use native.Mathlib.Omega.{arith}
use lib.ListN.{get_or, take, length-take}
use Rattle.trigrams.specs.Trigrams.{trigrams}
use Rattle.trigrams.proofs.Common.{count_le}
use Rattle.trigrams.proofs.Trigrams.{take_next}
use Rattle.tally.proofs.Steps.{counted_pushed, counted_found}
use Rattle.tally.proofs.Tally.add.Goals as goal

pub overflow_add-self : goal.overflow_add-self
overflow_add-self g c =
    let a = c.args.self.now in
    let x = take c.args.i (trigrams c.args.s.now) in
    omega (
      arith,
      ap (λ k. get_or a.counts k 0) c.find-k.ensures.is ∙ c.requires.counts.each c.at-v.result,
      count_le c.at-v.result x,
      length-take c.args.i (trigrams c.args.s.now),
      a.nodes.few,
    )

pub returns-then-k-eq0-clause-counts : goal.returns-then-k-eq0-clause-counts
returns-then-k-eq0-clause-counts g c =
    let a = c.args.self.now in
    let v = c.at-v.result in
    let x = take c.args.i (trigrams c.args.s.now) in
    rw (take_next c.args.s.now c.args.i v c.requires.there c.at-v.ensures.is)
    (record {
      each = counted_pushed c.find-k.ensures.left x a.counts v c.push.ensures c.requires.counts.each a.none
          (sym c.find-k.ensures.is ∙ c.if-k-eq0.true) (search rules) (search rules) (search rules) (search rules) (omega arith);
    })

pub returns-else-k-eq0-clause-counts : goal.returns-else-k-eq0-clause-counts
returns-else-k-eq0-clause-counts g c =
    let a = c.args.self.now in
    let v = c.at-v.result in
    let x = take c.args.i (trigrams c.args.s.now) in
    rw (take_next c.args.s.now c.args.i v c.requires.there c.at-v.ensures.is)
    (record {
      each = counted_found c.find-k.ensures.left x a.counts v c.find-k.result c.requires.counts.each a.none c.find-k.ensures.is
          c.if-k-eq0.false (search rules);
    })
