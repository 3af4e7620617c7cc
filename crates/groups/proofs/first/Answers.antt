-- The groups, and then the blocks behind them.
use Prim.Native.Nat.{◌-◌, ◌*◌, ◌/◌}
use native.Mathlib.Omega.{arith}
use Rattle.turns.specs.Turns.{ciphered}
use Rattle.turns.proofs.Ways.{ciphered_blockwise}
use Rattle.groups.proofs.PutBack.{few_behind}
use Rattle.groups.proofs.first.Goals as goal

pub returns-then-g-w : goal.returns-then-g-w
returns-then-g-w c =
    let a = c.args in
    few_behind (ciphered a.ahead a.k a.n a.key) (ciphered_blockwise a.ahead a.k a.n a.key) a.tweaks.now a.blocks.now
    (64 * (a.w / 64)) (a.w - 64 * (a.w / 64)) (omega arith) (omega arith) c.requires.1 c.requires.2 c.groups.ensures c.filled_up.ensures
