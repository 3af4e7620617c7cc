-- Plane j has bit j of the word.
use mathlib.Core.List.{◌∷◌}
use mathlib.Core.Path.{sym, ap}
use Prim.Native.Nat.{ℕ, suc}
use Rattle.bits.specs.Bit.{bit}
use Rattle.bits.specs.Table.{tab}
use Rattle.bits.proofs.Bits.{bit_zero}
use Rattle.cipher_boxes.proofs.on_planes.row_alone.Goals as goal

pub returns : goal.returns
unfolding bit
returns c =
    ap (λ (n : ℕ). n ∷ tab 15 (λ i. bit c.args.x (suc i))) (sym (bit_zero c.args.x))
