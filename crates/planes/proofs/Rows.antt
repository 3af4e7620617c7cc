-- The row of a state in its sixteen planes.
use mathlib.Core.Path.{◌≡◌}
use mathlib.Core.List.{List}
use Prim.Native.Nat.{ℕ, ◌^◌, ◌<◌}
use lib.ListN.{get_or}
use Rattle.bits.specs.Bit.{bit}
use Rattle.bits.proofs.Bits.{bit_lt, bit_gather, gather_lt}
use Rattle.planes.specs.Planes.{row_at}

module _ (r : List ℕ) (b : ℕ) where
  pub row_lt : row_at r b < 2 ^ 16
  unfolding row_at
  row_lt = gather_lt 16 (λ j. bit (get_or r j 0) b) (λ j. bit_lt (get_or r j 0) b)

  -- its bits are the bits b of the planes
  pub row_bit : (j : ℕ) → j < 16 → bit (row_at r b) j ≡ bit (get_or r j 0) b
  unfolding row_at
  row_bit = bit_gather 16 (λ j. bit (get_or r j 0) b) (λ j. bit_lt (get_or r j 0) b)
