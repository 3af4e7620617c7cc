-- Row by row.
use Rattle.lbox.specs.Lbox
use Rattle.steps.proofs.JoinedLBoxLayer.layer.Goals as goal

pub returns : goal.returns
unfolding Lbox.layer
returns c =
    cc
