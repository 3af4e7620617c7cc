-- Within the rows, then between them.
use mathlib.Core.Path.{ap, ◌∙◌}
use Rattle.transposition.specs.Levels.{level, turned}
use Rattle.transposition.proofs.turning.turn.Goals as goal

pub returns : goal.returns
unfolding turned
returns c =
    c.level-2.ensures
    ∙ ap (level 32 0x00000000FFFFFFFF) (c.level.ensures ∙ ap (level 16 0x0000FFFF0000FFFF) c.rows.ensures)
