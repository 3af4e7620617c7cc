-- Two words of the 128.
use Rattle.planes.proofs.Writing.{state_rows}
use Rattle.planes.proofs.storing.state_in.Goals as goal

pub returns : goal.returns
returns c =
    state_rows _ _
