-- The byte that stands alone in column 0 is that column.
use mathlib.Core.Path.{◌≡◌, ap, ◌∙◌}
use Prim.Native.Nat.{ℕ, ◌<◌}
use native.Mathlib.Omega.{arith}
use lib.ListN.{get_or}
use Rattle.bits.specs.Bit.{bit}
use Rattle.bits.proofs.Bits.{bit_lt, bit_zero, gather_ext, gather_bit}
use Rattle.bits.proofs.Lists.{get_or_tab}
use Rattle.sbox.specs.Sbox.{alone, column}

pub first_bit : (b i : ℕ) → bit (bit b i) 0 ≡ bit b i
first_bit b i = omega (arith, bit_zero (bit b i), bit_lt b i)

pub alone_column : (b : ℕ) → b < 256 → column (alone b) 0 ≡ b
unfolding alone column
alone_column b h =
    gather_ext 8 (λ i. bit (get_or (alone b) i 0) 0) (bit b) (λ i hi. ap (λ (x : ℕ). bit x 0) (get_or_tab 8 (bit b) i hi) ∙ first_bit b i)
    ∙ gather_bit 8 b h
