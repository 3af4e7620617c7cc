-- The row of state b after what is done to the sixteen planes of one row.
use mathlib.Core.Path.{◌≡◌, sym, ap, ◌∙◌}
use mathlib.Core.List.{List}
use Prim.Native.Nat.{ℕ, ◌-◌, ◌*◌, ◌+◌, ◌/◌, ◌%◌, ◌^◌, ◌<◌}
use native.Mathlib.Omega.{arith}
use lib.Bits.{bit_xor, xor_lt}
use lib.ListN.{get_or}
use lib.Pow.{pow_pos}
use Rattle.bits.specs.Bit.{bit, gather}
use Rattle.bits.proofs.Bits.{bit_lt, bit_of_zero, bit_not, bit_of_xor, bit_ext, gather_ext, gather_bit, two}
use Rattle.bits.proofs.Lists.{get_or_tab}
use Rattle.bits.proofs.Shifts.{gather_from}
use Rattle.planes.specs.Planes.{row_at}
use Rattle.planes.proofs.Rows.{row_lt, row_bit}
use Rattle.rounds.specs.Tweakey.{rotated_row}
use Rattle.plane_tweakeys.specs.Shared.{spread}
use Rattle.plane_tweakeys.specs.PlaneRows.{add_planes, rotated_planes}

module _ (r : List ℕ) (b : ℕ) where
  -- planes one place up: the row rotated left by 1
  pub rotated_row_lem : row_at (rotated_planes r) b ≡ rotated_row (row_at r b)
  unfolding row_at rotated_planes gather bit
  rotated_row_lem = λ i. low i * 2 + high i
    where
      low : gather 15 (λ j. bit (get_or r j 0) b) ≡ row_at r b % 32768
      low =
          gather_ext 15 (λ j. bit (get_or r j 0) b) (bit (row_at r b)) (λ j h. sym (row_bit r b j (omega arith)))
          ∙ gather_from 15 (row_at r b) 0
          ∙ omega arith

      high : bit (get_or r 15 0) b ≡ row_at r b / 32768
      high = sym (row_bit r b 15 (omega arith)) ∙ omega (arith, row_lt r b)

-- added planes hold added rows
pub added_row : (r s : List ℕ) (b : ℕ) → row_at (add_planes r s) b ≡ bit_xor (row_at r b) (row_at s b)
unfolding add_planes
added_row r s b =
    bit_ext 16 (row_lt (add_planes r s) b) (xor_lt 16 (row_at r b) (row_at s b) (row_lt r b) (row_lt s b))
    (λ j h.
    row_bit (add_planes r s) b j h
    ∙ ap (λ (p : ℕ). bit p b) (get_or_tab 16 (λ j. bit_xor (get_or r j 0) (get_or s j 0)) j h)
    ∙ bit_of_xor (get_or r j 0) (get_or s j 0) b
    ∙ (λ i. bit_xor (sym (row_bit r b j h) i) (sym (row_bit s b j h) i))
    ∙ sym (bit_of_xor (row_at r b) (row_at s b) j))

-- a bit in all 64 places
all_bits : (b : ℕ) → b < 64 → (m : ℕ) → m < 2 → bit (m * 18446744073709551615) b ≡ m
all_bits b h =
    two (λ (m : ℕ). bit (m * 18446744073709551615) b ≡ m) (bit_of_zero b)
    (bit_not 64 0 b (pow_pos 64) h ∙ ap (λ (n : ℕ). 1 - n) (bit_of_zero b))

-- a row spread is there in every state
pub spread_row : (c : ℕ) → c < 2 ^ 16 → (b : ℕ) → b < 64 → row_at (spread c) b ≡ c
unfolding row_at spread
spread_row c hc b hb =
    gather_ext 16 (λ j. bit (get_or (spread c) j 0) b) (bit c)
    (λ j h. ap (λ (p : ℕ). bit p b) (get_or_tab 16 (λ j. bit c j * 18446744073709551615) j h) ∙ all_bits b hb (bit c j) (bit_lt c j))
    ∙ gather_bit 16 c hc
