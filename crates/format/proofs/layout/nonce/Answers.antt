-- The eight bytes of the one number, and the four lowest of the other.
use mathlib.Core.List.{◌++◌}
use Rattle.fields.proofs.HighFirst.{high_first_is}
use Rattle.format.specs.Sealings.{nonce_of}
use Rattle.format.proofs.layout.nonce.Goals as goal

pub returns : goal.returns
unfolding nonce_of
returns c =
    rw (c.copy_from_slice.ensures.after, c.copy_from_slice-2.ensures.after, c.to_be_bytes.ensures, c.to_be_bytes-2.ensures)
    (λ i. high_first_is 8 c.args.number i ++ high_first_is 4 c.args.n i)
