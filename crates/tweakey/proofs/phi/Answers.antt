-- The halves of four rows are the words.
use mathlib.Core.Path.{refl}
use lib.Bits.{bit_xor}
use Rattle.tweakey.proofs.Tweakeys.{phi_is}
use Rattle.tweakey.proofs.phi.Goals as goal

pub returns : goal.returns
returns c =
    let t = c.args.t in
    phi_is t (record { low = bit_xor t.low t.high; high = t.low }) refl refl
