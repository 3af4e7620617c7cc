-- The first eight bits of the word that is the byte.
use mathlib.Core.Path.{ap}
use mathlib.Core.List.{List}
use Prim.Native.Nat.{ℕ}
use lib.ListN.{get_or}
use Rattle.bits.specs.Table.{tab}
use Rattle.sbox.specs.Sbox
use Rattle.cipher_boxes.proofs.on_planes.alone.Goals as goal

pub returns : goal.returns
unfolding Sbox.alone
returns c =
    ap (λ (l : List ℕ). tab 8 (λ i. get_or l i 0)) c.row_alone-w.ensures
