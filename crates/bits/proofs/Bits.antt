-- Laws of the bits of a number, and of and, or, xor and not by bits.
use mathlib.Core.Path.{◌≡◌, refl, sym, ap, ◌∙◌}
use Prim.Native.Nat.{ℕ, zero, suc, ◌+◌, ◌-◌, ◌/◌, ◌%◌, ◌^◌, ◌≤◌, ◌<◌}
use native.Mathlib.Nat.{zero-lt-suc}
use native.Mathlib.Omega.{arith}
use lib.Bits.{bit_and, bit_or, bit_xor, and_shr, or_shr, xor_shr, and_mod, or_mod, xor_mod, xor_comm, xor_self, xor_zero_r, xor_lt}
use lib.Pow.{shr-shr, pow_pos}
use Rattle.bits.specs.Bit.{bit, gather}

pub bit_lt : (n j : ℕ) → bit n j < 2
unfolding bit
bit_lt n j = omega arith

pub bit_zero : (n : ℕ) → bit n 0 ≡ n % 2
unfolding bit
bit_zero n = omega arith

pub bit_suc : (n j : ℕ) → bit n (suc j) ≡ bit (n / 2) j
unfolding bit
bit_suc n j = ap (λ (x : ℕ). x % 2) (ap (λ (e : ℕ). n / 2 ^ e) (omega arith) ∙ sym (shr-shr n 1 j))

pub bit_of_zero : (j : ℕ) → bit 0 j ≡ 0
bit_of_zero zero = bit_zero 0
bit_of_zero (suc j) = bit_suc 0 j ∙ bit_of_zero j

pub bit_of_and : (a b j : ℕ) → bit (bit_and a b) j ≡ bit_and (bit a j) (bit b j)
unfolding bit
bit_of_and a b j = ap (λ (x : ℕ). x % 2) (and_shr a b j) ∙ and_mod (a / 2 ^ j) (b / 2 ^ j) 1

pub bit_of_or : (a b j : ℕ) → bit (bit_or a b) j ≡ bit_or (bit a j) (bit b j)
unfolding bit
bit_of_or a b j = ap (λ (x : ℕ). x % 2) (or_shr a b j) ∙ or_mod (a / 2 ^ j) (b / 2 ^ j) 1

pub bit_of_xor : (a b j : ℕ) → bit (bit_xor a b) j ≡ bit_xor (bit a j) (bit b j)
unfolding bit
bit_of_xor a b j = ap (λ (x : ℕ). x % 2) (xor_shr a b j) ∙ xor_mod (a / 2 ^ j) (b / 2 ^ j) 1

half_lt : (a k : ℕ) → a < 2 ^ suc k → a / 2 < 2 ^ k
half_lt a k h = omega arith

-- two numbers below 2 ^ k with the same bits are equal
pub bit_ext : (k : ℕ) {a b : ℕ} → a < 2 ^ k → b < 2 ^ k → ((j : ℕ) → j < k → bit a j ≡ bit b j) → a ≡ b
bit_ext zero ha hb e = omega arith
bit_ext (suc k) {a} {b} ha hb e =
    let lo : a % 2 ≡ b % 2 = sym (bit_zero a) ∙ e 0 (zero-lt-suc k) ∙ bit_zero b in
    let hi : a / 2 ≡ b / 2 = bit_ext k (half_lt a k ha) (half_lt b k hb) (λ j hj. sym (bit_suc a j) ∙ e (suc j) (omega arith) ∙ bit_suc b j) in
    omega arith

-- not by bits, at a width of k: what the code's `!` gives
pub bit_not : (k a j : ℕ) → a < 2 ^ k → j < k → bit (2 ^ k - 1 - a) j ≡ 1 - bit a j
bit_not (suc k) a zero ha hj = rw (bit_zero, bit_zero) (omega (arith, pow_pos k))
bit_not (suc k) a (suc j) ha hj = rw (bit_suc, bit_suc) (ap (λ (n : ℕ). bit n j) (half k a ha) ∙ bit_not k (a / 2) j (half_lt a k ha) (omega arith))
  where
    half : (k a : ℕ) → a < 2 ^ suc k → (2 ^ suc k - 1 - a) / 2 ≡ 2 ^ k - 1 - a / 2
    half k a h = omega arith
bit_not zero a j ha hj = omega arith

pub gather_lt : (k : ℕ) (f : ℕ → ℕ) → ((j : ℕ) → f j < 2) → gather k f < 2 ^ k
unfolding gather
gather_lt zero f h = omega arith
gather_lt (suc k) f h = omega (arith, gather_lt k (λ j. f (suc j)) (λ j. h (suc j)), h 0)

pub bit_gather : (k : ℕ) (f : ℕ → ℕ) → ((j : ℕ) → f j < 2) → (j : ℕ) → j < k → bit (gather k f) j ≡ f j
unfolding gather
bit_gather (suc k) f h zero hj = bit_zero (gather (suc k) f) ∙ omega (arith, h 0)
bit_gather (suc k) f h (suc j) hj =
    bit_suc (gather (suc k) f) j
    ∙ ap (λ (n : ℕ). bit n j) (omega (arith, h 0))
    ∙ bit_gather k (λ i. f (suc i)) (λ i. h (suc i)) j (omega arith)
bit_gather zero f h j hj = omega arith

-- gather looks at f below k only
pub gather_ext : (k : ℕ) (f g : ℕ → ℕ) → ((j : ℕ) → j < k → f j ≡ g j) → gather k f ≡ gather k g
unfolding gather
gather_ext zero f g e = refl
gather_ext (suc k) f g e =
    let hi : gather k (λ j. f (suc j)) ≡ gather k (λ j. g (suc j)) = gather_ext k (λ j. f (suc j)) (λ j. g (suc j)) (λ j h. e (suc j) (omega arith)) in
    omega (arith, e 0 (zero-lt-suc k))

-- a number below 2 ^ k is put together from its bits
pub gather_bit : (k n : ℕ) → n < 2 ^ k → gather k (bit n) ≡ n
gather_bit k n h = bit_ext k (gather_lt k (bit n) (bit_lt n)) h (bit_gather k (bit n) (bit_lt n))

-- what holds of 0 and of 1 holds of each bit
pub two : (P : ℕ → Type 0) → P 0 → P 1 → (x : ℕ) → x < 2 → P x
two P p q zero h = p
two P p q (suc zero) h = q
two P p q (suc (suc x)) h = absurd (omega arith)

-- Equations of xor are shown at single bits, by trying each.
bit_assoc : (x : ℕ) → x < 2 → (y : ℕ) → y < 2 → (z : ℕ) → z < 2 → bit_xor (bit_xor x y) z ≡ bit_xor x (bit_xor y z)
bit_assoc =
    two (λ (x : ℕ). (y : ℕ) → y < 2 → (z : ℕ) → z < 2 → bit_xor (bit_xor x y) z ≡ bit_xor x (bit_xor y z))
    (two (λ (y : ℕ). (z : ℕ) → z < 2 → bit_xor (bit_xor 0 y) z ≡ bit_xor 0 (bit_xor y z))
    (two (λ (z : ℕ). bit_xor (bit_xor 0 0) z ≡ bit_xor 0 (bit_xor 0 z)) refl refl)
    (two (λ (z : ℕ). bit_xor (bit_xor 0 1) z ≡ bit_xor 0 (bit_xor 1 z)) refl refl))
    (two (λ (y : ℕ). (z : ℕ) → z < 2 → bit_xor (bit_xor 1 y) z ≡ bit_xor 1 (bit_xor y z))
    (two (λ (z : ℕ). bit_xor (bit_xor 1 0) z ≡ bit_xor 1 (bit_xor 0 z)) refl refl)
    (two (λ (z : ℕ). bit_xor (bit_xor 1 1) z ≡ bit_xor 1 (bit_xor 1 z)) refl refl))

-- a number that holds all of n: 2 ^ n is above it
above : (n : ℕ) → n < 2 ^ n
above zero = omega arith
above (suc n) = omega (arith, above n)

under : {a k : ℕ} → a ≤ k → a < 2 ^ k
under {a} {k} h = omega (arith, above k)

pub xor_assoc : (a b c : ℕ) → bit_xor (bit_xor a b) c ≡ bit_xor a (bit_xor b c)
xor_assoc a b c =
    let k : ℕ = a + b + c in
    let ha : a < 2 ^ k = under (omega arith) in
    let hb : b < 2 ^ k = under (omega arith) in
    let hc : c < 2 ^ k = under (omega arith) in
    bit_ext k
    (xor_lt k (bit_xor a b) c (xor_lt k a b ha hb) hc)
    (xor_lt k a (bit_xor b c) ha (xor_lt k b c hb hc))
    (λ j h.
    bit_of_xor (bit_xor a b) c j
    ∙ ap (λ (n : ℕ). bit_xor n (bit c j)) (bit_of_xor a b j)
    ∙ bit_assoc (bit a j) (bit_lt a j) (bit b j) (bit_lt b j) (bit c j) (bit_lt c j)
    ∙ sym (bit_of_xor a (bit_xor b c) j ∙ ap (bit_xor (bit a j)) (bit_of_xor b c j)))

pub xor_left_comm : (a b c : ℕ) → bit_xor a (bit_xor b c) ≡ bit_xor b (bit_xor a c)
xor_left_comm a b c = sym (xor_assoc a b c) ∙ ap (λ (n : ℕ). bit_xor n c) (xor_comm a b) ∙ xor_assoc b a c

-- what is added twice is gone
pub xor_twice : (a k : ℕ) → bit_xor (bit_xor a k) k ≡ a
xor_twice a k = xor_assoc a k k ∙ ap (bit_xor a) (xor_self k) ∙ xor_zero_r a
