-- The blocks are copied, enciphered under their tweaks, and added.
use mathlib.Core.Path.{◌∙◌}
use Prim.Native.Nat.{◌*◌}
use lib.ListN.{take}
use Rattle.blockwise.specs.Blocks.{each_block}
use Rattle.text_blocks.specs.Under.{enciphers}
use Rattle.mode.proofs.Headers.{chunk_sum}
use Rattle.mode.proofs.header.chunk.Goals as goal

pub returns : goal.returns
returns c =
    let a = c.args in
    c.add_blocks.ensures
    ∙ chunk_sum a.u.now.suite a.u.now.key (record { suite = a.u.now.suite_listed; short = a.u.now.nonce_short }) a.first.0 a.k a.header.now a.sum c.requires.1 _ _ _
    (c.cipher_blocks.ensures
    ∙ (λ j. each_block (enciphers a.u.now.suite a.u.now.key) (take (16 * a.k) (c.header_tweaks.ensures j)) (c.copy.ensures j)))
