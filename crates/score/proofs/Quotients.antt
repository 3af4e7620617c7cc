-- Quotients by sums: a number added again and again, and the divisor taken away where it fits.
use mathlib.Core.Path.{◌≡◌, sym}
use Prim.Native.Nat.{ℕ, ◌+◌, ◌-◌, ◌*◌, ◌/◌, ◌≤◌, ◌<◌}
use native.Mathlib.Nat.{add-mul, div-le_of_le-mul, div-eq_of_lt-le}
use native.Mathlib.Omega.{arith}

-- i times a is q times n and a rest
abbrev pub Divided : ℕ → ℕ → ℕ → ℕ → ℕ → Type 0
Divided a n q rest i = (i * a ≡ q * n + rest) × (rest < n)

pub divided_less : (a n q rest i : ℕ) → Divided a n q rest i → a ≤ n → rest < n - a → Divided a n q (rest + a) (i + 1)
divided_less a n q rest i d h l = (omega (arith, add-mul i 1 a), omega arith)

pub divided_more : (a n q rest i : ℕ) → Divided a n q rest i → a ≤ n → n - a ≤ rest → Divided a n (q + 1) (rest - (n - a)) (i + 1)
divided_more a n q rest i d h l = (omega (arith, add-mul i 1 a, add-mul q 1 n), omega arith)

pub divided_is : (a n q rest i : ℕ) → Divided a n q rest i → q ≡ i * a / n
divided_is a n q rest i d = sym (div-eq_of_lt-le n {m = i * a} (omega arith) (omega (arith, add-mul q 1 n)))

-- a score is at most 1,000
pub quotient_le : (c n : ℕ) → 2 * c ≤ n → 2000 * c / n ≤ 1000
quotient_le c n h = div-le_of_le-mul n (omega arith)
