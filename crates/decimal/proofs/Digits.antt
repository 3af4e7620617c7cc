-- Laws of decimal digits: how many there are, what they say, what each is, and that no zero stands first.
use mathlib.Core.Path.{◌≡◌, refl, ap, ◌∙◌}
use mathlib.Core.Bool.{Bool, true, false}
use mathlib.Core.List.{List, [], ◌∷◌, ◌++◌}
use Prim.Native.Nat.{ℕ, zero, suc, ◌+◌, ◌*◌, ◌-◌, ◌/◌, ◌^◌, ◌≤◌, ◌<◌}
use native.Mathlib.Nat.{pow-succ', one-le-pow, mul_assoc}
use native.Mathlib.Omega.{arith}
use borrow.Author.Tests.{ltb-true, ltb-false, lt-ltb, le-ltb, le-leb}
use lib.Dec.{ltb}
use lib.ListN.{length, get_or, length-append, get_or-append}
use Rattle.decimal.specs.Decimal.{last_digit, digits_in, digits, Digit, value_of, digits_within}

-- a number has one digit, or more
pub by_size : {P : Type 0} (n : ℕ) → (n < 10 → P) → (10 ≤ n → P) → P
by_size {P} n one more = at (ltb n 10) refl
  where
    at : (b : Bool) → ltb n 10 ≡ b → P
    at true e = one (ltb-true n 10 e)
    at false e = more (ltb-false n 10 e)

-- what holds of each number of one digit, and of any other if of its tenth part, holds of all
pub by_tens : (P : ℕ → Type 0) → ((n : ℕ) → n < 10 → P n) → ((n : ℕ) → 10 ≤ n → P (n / 10) → P n) → (n : ℕ) → P n
by_tens P one more n = below (suc n) n (omega arith)
  where
    below : (k n : ℕ) → n < k → P n
    below zero n h = absurd (omega arith)
    below (suc k) n h = by_size n (one n) (λ t. more n t (below k (n / 10) (omega arith)))

-- more room for digits than there are changes nothing
enough : (j k n : ℕ) → n < j → n < k → digits_in j n ≡ digits_in k n
unfolding digits_in
enough zero k n hj hk = absurd (omega arith)
enough (suc j) zero n hj hk = absurd (omega arith)
enough (suc j) (suc k) n hj hk =
    by_size n
    (λ t. rw (lt-ltb n 10 t))
    (λ t. rw (le-ltb n 10 t) (ap (λ (s : List ℕ). s ++ last_digit n ∷ []) (enough j k (n / 10) (omega arith) (omega arith))))

-- one digit
pub digits_one : (n : ℕ) → n < 10 → digits n ≡ last_digit n ∷ []
unfolding digits digits_in
digits_one n h = rw (lt-ltb n 10 h)

-- the last digit, behind those of the tenth part
pub digits_more : (n : ℕ) → 10 ≤ n → digits n ≡ digits (n / 10) ++ last_digit n ∷ []
unfolding digits digits_in
digits_more n h = rw (le-ltb n 10 h) (ap (λ (s : List ℕ). s ++ last_digit n ∷ []) (enough n (suc (n / 10)) (n / 10) (omega arith) (omega arith)))

-- how many

pub length_one : (n : ℕ) → n < 10 → length (digits n) ≡ 1
length_one n h = ap length (digits_one n h)

pub length_more : (n : ℕ) → 10 ≤ n → length (digits n) ≡ length (digits (n / 10)) + 1
length_more n h = ap length (digits_more n h) ∙ length-append (digits (n / 10)) (last_digit n ∷ [])

pub digits_some : (n : ℕ) → 0 < length (digits n)
digits_some = by_tens (λ n. 0 < length (digits n)) (λ n h. omega (arith, length_one n h)) (λ n h k. omega (arith, length_more n h))

-- a number below 10 ^ k has at most k digits
pub digits_fit : (k n : ℕ) → 0 < k → n < 10 ^ k → length (digits n) ≤ k
digits_fit zero n p h = absurd (omega arith)
digits_fit (suc zero) n p h = omega (arith, length_one n (omega arith))
digits_fit (suc (suc k)) n p h =
    by_size n
    (λ t. omega (arith, length_one n t))
    (λ t. omega (arith, length_more n t, digits_fit (suc k) (n / 10) (omega arith) (omega (arith, pow-succ' 10 (suc k)))))

-- and one of 10 ^ k or more has more than k
pub digits_need : (k n : ℕ) → 10 ^ k ≤ n → k < length (digits n)
digits_need zero n h = digits_some n
digits_need (suc k) n h =
    let up : 10 ^ suc k ≡ 10 * 10 ^ k = pow-succ' 10 k in
    let some : 0 < 10 ^ k = one-le-pow k 10 (omega arith) in
    omega (arith, length_more n (omega arith), digits_need k (n / 10) (omega arith))

pub digits_u64 : (n : ℕ) → n < 2 ^ 64 → length (digits n) ≤ 20
digits_u64 n h = digits_fit 20 n (omega arith) (omega arith)

-- what they say

value_of_snoc : (s : List ℕ) (b : ℕ) → value_of (s ++ b ∷ []) ≡ value_of s * 10 + (b - 0x30)
unfolding value_of
value_of_snoc [] b = omega arith
value_of_snoc (a ∷ s) b =
    let long : length (s ++ b ∷ []) ≡ suc (length s) = length-append s (b ∷ []) ∙ omega arith in
    let e : 10 ^ length (s ++ b ∷ []) ≡ 10 * 10 ^ length s = ap (λ (n : ℕ). 10 ^ n) long ∙ pow-succ' 10 (length s) in
    ap (λ (x : ℕ). (a - 0x30) * x + value_of (s ++ b ∷ [])) e
    ∙ ap (λ (x : ℕ). (a - 0x30) * (10 * 10 ^ length s) + x) (value_of_snoc s b)
    ∙ omega (arith, mul_assoc (a - 0x30) 10 (10 ^ length s))

pub value_of_digits : (n : ℕ) → value_of (digits n) ≡ n
unfolding value_of
value_of_digits =
    by_tens (λ n. value_of (digits n) ≡ n)
    (λ n h. ap value_of (digits_one n h) ∙ omega arith)
    (λ n h e. ap value_of (digits_more n h) ∙ value_of_snoc (digits (n / 10)) (last_digit n) ∙ omega arith)

-- each of them

last_digit_lem : (n : ℕ) → Digit (last_digit n)
last_digit_lem n = record { low = omega arith; high = omega arith }

each_snoc : (s : List ℕ) (b : ℕ) → ((i : ℕ) → i < length s → Digit (get_or s i 0)) → Digit b
    → (i : ℕ) → i < length (s ++ b ∷ []) → Digit (get_or (s ++ b ∷ []) i 0)
each_snoc [] b each last zero h = last
each_snoc [] b each last (suc i) h = absurd (omega arith)
each_snoc (a ∷ s) b each last zero h = each 0 (omega arith)
each_snoc (a ∷ s) b each last (suc i) h = each_snoc s b (λ j k. each (suc j) (omega arith)) last i (omega arith)

pub digits_digit : (n i : ℕ) → i < length (digits n) → Digit (get_or (digits n) i 0)
digits_digit =
    by_tens (λ n. (i : ℕ) → i < length (digits n) → Digit (get_or (digits n) i 0))
    (λ n h. rw (digits_one n h) (each_snoc [] (last_digit n) (λ i k. absurd (omega arith)) (last_digit_lem n)))
    (λ n h before. rw (digits_more n h) (each_snoc (digits (n / 10)) (last_digit n) before (last_digit_lem n)))

-- no zero stands first but that of 0
pub digits_first : (n : ℕ) → 0 < n → 0x30 < get_or (digits n) 0 0
digits_first = by_tens (λ n. 0 < n → 0x30 < get_or (digits n) 0 0) one more
  where
    one : (n : ℕ) → n < 10 → 0 < n → 0x30 < get_or (digits n) 0 0
    one n h p = rw (digits_one n h) (omega arith)

    more : (n : ℕ) → 10 ≤ n → (0 < n / 10 → 0x30 < get_or (digits (n / 10)) 0 0) → 0 < n → 0x30 < get_or (digits n) 0 0
    more n h before p =
        rw (digits_more n h, get_or-append (digits (n / 10)) (last_digit n ∷ []) 0 0 (digits_some (n / 10)))
        (before (omega arith))

-- room for them all
pub digits_within_all : (room n : ℕ) → length (digits n) ≤ room → digits_within room n ≡ digits n
unfolding digits_within
digits_within_all room n h = rw (le-leb (length (digits n)) room h)

-- how many digits a number has that is at least the k-th power of ten and below the next
pub length_power : (k n : ℕ) → 10 ^ k ≤ n → n < 10 * 10 ^ k → length (digits n) ≡ k + 1
length_power zero n low high = length_one n (omega arith)
length_power (suc k) n low high =
    let power : 10 ^ suc k ≡ 10 * 10 ^ k = pow-succ' 10 k in
    let some : 1 ≤ 10 ^ k = one-le-pow k 10 (omega arith) in
    omega (arith, power, length_more n (omega arith), length_power k (n / 10) (omega arith) (omega arith))
