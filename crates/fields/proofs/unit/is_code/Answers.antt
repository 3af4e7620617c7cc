-- A code has two bytes.
use mathlib.Core.Path.{sym, ap, ◌∙◌}
use mathlib.Core.Bool.{◌&&◌, and-true}
use lib.ListN.{get_or}
use Rattle.bits.proofs.Lists.{tab_get_or}
use Rattle.fields.specs.Languages.{letter, letters}
use Rattle.fields.proofs.unit.is_code.Goals as goal

pub returns : goal.returns
unfolding letters
returns c =
    let h = c in
    let code = h.args.code in
    (λ i. c.is_letter.ensures i && c.is_letter-2.ensures i)
    ∙ ap (λ t. letter (get_or code 0 0) && t) (sym (and-true (letter (get_or code 1 0))))
    ∙ ap letters (tab_get_or 2 code h.well_formed.0.1.0.1)
