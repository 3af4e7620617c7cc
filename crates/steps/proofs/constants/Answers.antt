-- The list in the code is the formula, computed for rounds 0 to 28.
use mathlib.Core.Path.{refl}
use Rattle.rounds.specs.Cipher.{constant}
use Rattle.steps.proofs.constants.Goals as goal

pub returns : goal.returns
unfolding constant
returns c =
    refl
