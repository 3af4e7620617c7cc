-- The remainder by 2 is bit 0.
use mathlib.Core.Path.{sym}
use native.Mathlib.Omega.{arith}
use Rattle.bits.proofs.Bits.{bit_zero}
use Rattle.sbox.proofs.column.first_bit.Goals as goal

pub returns : goal.returns
returns c =
    (sym (bit_zero c.args.x), omega arith)
