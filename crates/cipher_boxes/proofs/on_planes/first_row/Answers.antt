-- The row's two bytes are the columns of eight planes each.
use native.Mathlib.Omega.{arith}
use Rattle.bits.specs.Bit.{gather}
use Rattle.sbox.specs.Sbox
use Rattle.planes.specs.Planes.{row_at}
use Rattle.cipher_boxes.proofs.on_planes.first_row.Goals as goal

pub returns : goal.returns
unfolding row_at Sbox.column gather
returns c =
    omega (arith, c.first-low.ensures, c.first-high.ensures)
