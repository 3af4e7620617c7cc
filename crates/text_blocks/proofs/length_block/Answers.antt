-- Byte 15 of an otherwise zero block.
use mathlib.Core.Path.{refl}
use Rattle.calls.specs.Calls.{length_block}
use Rattle.text_blocks.proofs.length_block.Goals as goal

pub returns : goal.returns
unfolding length_block
returns c =
    refl
