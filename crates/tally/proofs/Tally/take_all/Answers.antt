-- What is taken from the counts of x is shared with x.
use mathlib.Core.Path.{◌∙◌}
use Rattle.trigrams.specs.Trigrams.{trigrams}
use Rattle.tally.specs.Code.{counted}
use Rattle.tally.proofs.Steps.{taken_shared}
use Rattle.tally.proofs.Tally.take_all.Goals as goal

pub returns-clause-is : goal.returns-clause-is
returns-clause-is g c =
    let a = c.args.self.now in
    λ x h. c.take_all.ensures.is ∙ taken_shared (counted a.nodes a.counts) x (trigrams c.args.t.now) h.each
