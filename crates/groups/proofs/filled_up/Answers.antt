-- By what it calls: bytes copied to the start of a group, and back from it.
use Prim.Native.Nat.{◌+◌, ◌-◌, ◌*◌}
use native.Mathlib.Omega.{arith}
use Rattle.groups.specs.Group.{through}
use Rattle.turns.proofs.Ways.{ciphered_blockwise}
use Rattle.groups.proofs.PutBack.{put_back}
use Rattle.groups.proofs.filled_up.Goals as goal

pub returns : goal.returns
returns c =
    let a = c.args in
    put_back (through a.way.now) (ciphered_blockwise a.way.now.ahead a.way.now.cipher a.way.now.steps a.way.now.key) a.tweaks.now a.blocks.now
    a.r a.at (a.at + 16 * a.r - a.at) (omega arith) (omega arith) (omega arith) (omega arith)
    (omega arith) (omega arith) (omega arith)
    _ _ c.copy.ensures c.copy-2.ensures c.group.ensures c.copy-3.ensures
