-- The loop has done the first i groups.
use Prim.Native.Nat.{◌*◌}
use native.Mathlib.Omega.{arith}
use borrow.Author.Rules.{rules}
use Rattle.blockwise.proofs.Each.{each_none}
use Rattle.groups.specs.Group.{through}
use Rattle.turns.proofs.Ways.{ciphered_blockwise}
use Rattle.groups.proofs.PutBack.{few_behind}
use Rattle.groups.proofs.groups.Goals as goal

pub loop-i-init : goal.loop-i-init
loop-i-init c =
    let a = c.args in
    let f = through a.way.now in
    (search rules, each_none f (ciphered_blockwise a.way.now.ahead a.way.now.cipher a.way.now.steps a.way.now.key) a.tweaks.now a.blocks.now)

pub loop-i-preserved : goal.loop-i-preserved
loop-i-preserved c =
    let a = c.args in
    let i = c.loop-i.i in (
      search rules,
      few_behind (through a.way.now) (ciphered_blockwise a.way.now.ahead a.way.now.cipher a.way.now.steps a.way.now.key) a.tweaks.now a.blocks.now
          (64 * i) 64 (omega arith) (omega arith) (omega arith) (omega arith) c.loop-i.invariant.1 c.group.ensures,
    )
