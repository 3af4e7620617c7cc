-- The four, one behind the other.
use mathlib.Core.Path.{ap, ◌∙◌}
use Rattle.transposition.specs.Levels.{level_in, turned_row}
use Rattle.transposition.proofs.turning.row.Goals as goal

pub returns : goal.returns
unfolding turned_row
returns c =
    c.level-4.ensures
    ∙ ap (level_in 8 0x00FF00FF00FF00FF)
    (c.level-3.ensures
    ∙ ap (level_in 4 0x0F0F0F0F0F0F0F0F)
    (c.level-2.ensures ∙ ap (level_in 2 0x3333333333333333) c.level.ensures))
