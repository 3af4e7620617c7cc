-- Xor of the words is xor of the rows.
use mathlib.Core.Path.{refl}
use lib.Bits.{bit_xor}
use Rattle.state.proofs.Words.{add_is}
use Rattle.state.proofs.add.Goals as goal

pub returns : goal.returns
returns c =
    let h = c.args in
    add_is h.a h.b (record { low = bit_xor h.a.low h.b.low; high = bit_xor h.a.high h.b.high }) refl refl
