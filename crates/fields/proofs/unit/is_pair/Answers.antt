-- Two codes, each of letters.
use mathlib.Core.Bool.{◌&&◌}
use Rattle.fields.specs.Languages.{pair_allowed}
use Rattle.fields.proofs.unit.is_pair.Goals as goal

pub returns : goal.returns
unfolding pair_allowed
returns c = λ i. c.is_code.ensures i && c.is_code-2.ensures i
