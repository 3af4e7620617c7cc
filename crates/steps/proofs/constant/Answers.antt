-- The list in the code is the formula, computed for rounds 0 to 28.
use mathlib.Core.Path.{◌∙◌}
use native.Mathlib.Omega.{arith}
use Rattle.bits.proofs.Lists.{get_or_tab}
use Rattle.rounds.specs.Cipher.{constant}
use Rattle.steps.proofs.constant.Goals as goal

pub returns : goal.returns
unfolding constant
returns c =
    c.from.ensures ∙ get_or_tab 29 constant c.args.r (omega arith)
