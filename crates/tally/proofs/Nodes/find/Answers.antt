-- The search begins at the head of v's chain.
use mathlib.Core.Path.{ap, ◌∙◌}
use lib.ListN.{get_or}
use Rattle.tally.proofs.Steps.{found_node}
use Rattle.tally.proofs.Nodes.find.Goals as goal

pub returns-clause-is : goal.returns-clause-is
returns-clause-is g c =
    let a = c.args.self.now in
    found_node a.down a.head a.keys c.args.v c.from-from.result c.search.result
    (c.from-from.ensures ∙ ap (λ h. get_or a.head h 0) c.chain_of.ensures.is) c.search.ensures
