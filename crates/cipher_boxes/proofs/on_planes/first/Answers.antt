-- The lowest bits have the column.
use mathlib.Core.Path.{◌∙◌}
use Rattle.cipher_boxes.proofs.FirstState.{column_lowest}
use Rattle.cipher_boxes.proofs.on_planes.first.Goals as goal

pub returns : goal.returns
returns c =
    c.first.ensures ∙ column_lowest c.args.w
