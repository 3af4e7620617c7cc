-- The first state of planes: its column and its row stand in the lowest bits.
use mathlib.Core.Path.{◌≡◌, ap, ◌∙◌}
use mathlib.Core.List.{List}
use Prim.Native.Nat.{ℕ, ◌%◌, ◌^◌, ◌<◌}
use native.Mathlib.Omega.{arith}
use lib.ListN.{get_or}
use Rattle.bits.specs.Bit.{bit}
use Rattle.bits.specs.Table.{tab}
use Rattle.bits.proofs.Bits.{bit_zero, gather_ext, gather_bit}
use Rattle.bits.proofs.Lists.{get_or_tab}
use Rattle.sbox.specs.Sbox.{column}
use Rattle.sbox.proofs.Columns.{first_bit}
use Rattle.planes.specs.Planes.{row_at}

lowest : (x : ℕ) → bit (x % 2) 0 ≡ bit x 0
lowest x = omega (arith, bit_zero (x % 2), bit_zero x)

-- column 0 is that of the lowest bits
pub column_lowest : (w : List ℕ) → column (tab 8 (λ i. get_or w i 0 % 2)) 0 ≡ column w 0
unfolding column
column_lowest w =
    gather_ext 8 (λ i. bit (get_or (tab 8 (λ i. get_or w i 0 % 2)) i 0) 0) (λ i. bit (get_or w i 0) 0)
    (λ i h. ap (λ (x : ℕ). bit x 0) (get_or_tab 8 (λ i. get_or w i 0 % 2) i h) ∙ lowest (get_or w i 0))

-- the bits of a word, each in the first state's place of its plane, are the first state's row
pub row_first : (x : ℕ) → x < 2 ^ 16 → row_at (tab 16 (bit x)) 0 ≡ x
unfolding row_at
row_first x h =
    gather_ext 16 (λ j. bit (get_or (tab 16 (bit x)) j 0) 0) (bit x) (λ j hj. ap (λ (y : ℕ). bit y 0) (get_or_tab 16 (bit x) j hj) ∙ first_bit x j)
    ∙ gather_bit 16 x h
