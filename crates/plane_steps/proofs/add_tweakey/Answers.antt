-- By the cipher.
use Rattle.plane_steps.specs.Picked.{tweakeys_of}
use Rattle.plane_steps.proofs.add_tweakey.Goals as goal

pub returns-in-Scream : goal.returns-in-Scream
unfolding tweakeys_of
returns-in-Scream c =
    rw c.in-Scream.is c.add.ensures

pub returns-in-IScream : goal.returns-in-IScream
unfolding tweakeys_of
returns-in-IScream c =
    rw c.in-IScream.is c.add-in-IScream.ensures
