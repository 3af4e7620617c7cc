-- The bits of a number that is shifted or cut.
use mathlib.Core.Path.{◌≡◌, sym, ap, ◌∙◌}
use Prim.Native.Nat.{ℕ, ◌+◌, ◌-◌, ◌*◌, ◌/◌, ◌%◌, ◌^◌, ◌<◌}
use native.Mathlib.Nat.{mod-lt}
use native.Mathlib.Omega.{arith}
use lib.Bits.{bit_and, and_block}
use lib.Pow.{shr-shr, shl-shr, field, mod-mod-pow, pow_pos}
use Rattle.bits.specs.Bit.{bit, gather}
use Rattle.bits.proofs.Bits.{bit_lt, bit_ext, bit_gather, gather_lt}

pub bit_shr : (x d n : ℕ) → bit (x / 2 ^ d) n ≡ bit x (d + n)
unfolding bit
bit_shr x d n = ap (λ (y : ℕ). y % 2) (shr-shr x d n)

pub bit_shl : (x d n : ℕ) → bit (x * 2 ^ d) (d + n) ≡ bit x n
bit_shl x d n = sym (bit_shr (x * 2 ^ d) d n) ∙ ap (λ (y : ℕ). bit y n) (shl-shr x d)

pub and_shl : (a b d : ℕ) → bit_and a b * 2 ^ d ≡ bit_and (a * 2 ^ d) (b * 2 ^ d)
and_shl a b d =
    let none : (x : ℕ) → x * 2 ^ d + 0 ≡ x * 2 ^ d = λ x. omega arith in
    sym (none (bit_and a b)) ∙ sym (and_block d a b 0 0 (pow_pos d) (pow_pos d)) ∙ (λ i. bit_and (none a i) (none b i))

-- what is cut off does not show below
pub bit_cut : (x k n : ℕ) → n < k → bit (x % 2 ^ k) n ≡ bit x n
unfolding bit
bit_cut x k n h =
    let j : ℕ = k - n - 1 in
    let e : k ≡ j + 1 + n = omega arith in
    ap (λ (w : ℕ). x % 2 ^ w / 2 ^ n % 2) e ∙ ap (λ (y : ℕ). y % 2) (field x (j + 1) n) ∙ mod-mod-pow (x / 2 ^ n) j 1

-- k bits of a number from a place on
pub gather_from : (k w s : ℕ) → gather k (λ j. bit w (s + j)) ≡ w / 2 ^ s % 2 ^ k
gather_from k w s =
    bit_ext k (gather_lt k (λ j. bit w (s + j)) (λ j. bit_lt w (s + j))) (mod-lt (w / 2 ^ s) (pow_pos k))
    (λ j h. bit_gather k (λ j. bit w (s + j)) (λ j. bit_lt w (s + j)) j h ∙ sym (bit_shr w s j) ∙ sym (bit_cut (w / 2 ^ s) k j h))
