-- By what it calls: the tweakeys of 64 tweaks, all turns of 64 blocks, and each block put at its place.
use mathlib.Core.Path.{◌≡◌, ◌∙◌}
use native.Mathlib.Omega.{arith}
use Rattle.groups.proofs.Ciphered.{group_is}
use Rattle.groups.proofs.group.Goals as goal

pub returns : goal.returns
returns c =
    let a = c.args in
    let w = a.way.now in
    let all : c.loop-s.s ≡ 3 = omega arith in
    c.store.ensures.1
    ∙ group_is w.ahead w.cipher w.steps w.key a.at a.tweaks.now a.blocks.now
    w.same c.load.ensures (rw all at c.loop-s.invariant) c.load-2.ensures c.turns.ensures
