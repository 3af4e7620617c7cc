-- Row by row.
use Rattle.rounds.specs.Tweakey.{rotated}
use Rattle.tweakey.proofs.rotate_rows.Goals as goal

pub returns : goal.returns
unfolding rotated
returns c =
    cc
