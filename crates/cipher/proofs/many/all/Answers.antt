-- The groups, then the others.
use native.Mathlib.Omega.{arith}
use Rattle.cipher.proofs.Rest.{all_done}
use Rattle.turns.proofs.Ways.{ciphered_blockwise}
use Rattle.turns.specs.Turns.{ciphered}
use Rattle.cipher.proofs.many.all.Goals as goal

pub returns : goal.returns
returns c =
    let a = c.args in
    all_done (ciphered a.ahead a.k a.n a.key) (ciphered_blockwise a.ahead a.k a.n a.key) a.tweaks.now a.blocks.now
    c.in_groups-g.result (omega (arith, c.in_groups-g.ensures, c.whole.ensures))
    c.first.ensures c.all-2.ensures
