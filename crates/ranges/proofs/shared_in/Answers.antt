-- Nothing is counted, then a's trigrams are, then b's are taken.
use mathlib.Core.Path.{ap, ◌∙◌}
use Rattle.trigrams.specs.Trigrams.{trigrams}
use Rattle.trigrams.specs.Taken.{taken}
use Rattle.ranges.specs.Ranges.{shared_in}
use Rattle.ranges.proofs.Counts.{counted_none, counted_held}
use Rattle.ranges.proofs.shared_in.Goals as goal

pub count_in-requires : goal.count_in-requires
count_in-requires c =
    counted_none c.args.range

pub returns : goal.returns
unfolding shared_in
returns c =
    let y = trigrams c.args.b.now in
    c.take_in.ensures ∙ ap (λ m. taken m y) (counted_held c.count_in.ensures)
