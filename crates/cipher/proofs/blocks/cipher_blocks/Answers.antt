-- By what the flag says.
use mathlib.Core.Path.{◌∙◌}
use Rattle.blockwise.specs.Blocks.{each_block}
use Rattle.cipher.proofs.Entries.{ciphered_is}
use Rattle.cipher.proofs.blocks.cipher_blocks.Goals as goal

pub returns : goal.returns
returns c =
    let a = c.args in
    (rw c.from-n.ensures at c.all.ensures)
    ∙ (λ i. each_block (ciphered_is a.ahead (c.cipher_of.ensures i) a.suite.steps a.key i) a.tweaks.now a.blocks.now)
