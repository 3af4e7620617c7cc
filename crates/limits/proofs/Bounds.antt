-- The least of a power of two and 2 ^ 24.
use mathlib.Core.Path.{◌≡◌, sym, ap}
use Prim.Native.Nat.{ℕ, ◌-◌, ◌*◌, ◌%◌, ◌^◌, ◌≤◌, ◌<◌, min}
use native.Mathlib.Nat.{min-eq_right}
use native.Mathlib.Omega.{arith}
use lib.Pow.{pow_mono}

-- under 14 bytes of nonce, and over 16: k is 130 for the header and 131 for the text
pub short_nonce : (k n : ℕ) → 128 ≤ k → n < 14 → 2 ^ 24 ≡ min (2 ^ (k - 8 * n)) (2 ^ 24)
short_nonce k n h l = sym (min-eq_right (pow_mono {i = 24} {j = k - 8 * n} (omega arith)))

pub long_nonce : (k n : ℕ) → k ≤ 136 → 17 ≤ n → 1 ≡ min (2 ^ (k - 8 * n)) (2 ^ 24)
long_nonce k n h l = let z : 0 ≡ k - 8 * n = omega arith in ap (λ e. min (2 ^ e) (2 ^ 24)) z

-- under 14 to 16 bytes
pub middle_nonce : (k n : ℕ) → k ≤ 136 → 14 ≤ n → 1 * 2 ^ (k - 8 * n) % 18446744073709551616 ≡ min (2 ^ (k - 8 * n)) 16777216
middle_nonce k n h l =
    let small : 2 ^ (k - 8 * n) ≤ 2 ^ 24 = pow_mono {i = k - 8 * n} {j = 24} (omega arith) in
    omega (arith, small)
