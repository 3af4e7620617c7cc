-- Every chain is empty.
use mathlib.Core.Path.{refl, ap, ◌∙◌}
use lib.ListN.{length, get_or}
use Rattle.bits.proofs.Lists.{get_or_zeros}
use Rattle.tally.proofs.Steps.{empty_zeros}
use Rattle.tally.proofs.Tally.clear.Goals as goal

pub returns : goal.returns
returns g c =
    empty_zeros _ (λ h. ap (λ l. get_or l h 0) (c.fill.ensures.after (λ y e. e)) ∙ get_or_zeros (length c.args.self.now.nodes.head) h) refl
