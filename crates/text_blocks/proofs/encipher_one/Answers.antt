-- One block is one of many.
use mathlib.Core.Path.{◌∙◌}
use native.Mathlib.Omega.{arith}
use Rattle.blockwise.proofs.Each.{each_one}
use Rattle.text_blocks.specs.Under.{enciphers}
use Rattle.text_blocks.proofs.encipher_one.Goals as goal

pub returns : goal.returns
returns c =
    let a = c.args in
    c.cipher_blocks.ensures ∙ each_one (enciphers a.u.now.suite a.u.now.key) a.tweak a.block (omega arith) (omega arith)
