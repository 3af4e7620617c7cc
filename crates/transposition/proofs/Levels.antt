-- Where the bits of a level come from: one law, whatever its distance.
use mathlib.Core.Path.{◌≡◌, refl, sym, ap, ◌∙◌}
use mathlib.Core.Bool.{Bool, true, false, cond, ◌&&◌}
use mathlib.Core.List.{List, []}
use Prim.Native.Nat.{ℕ, ◌+◌, ◌-◌, ◌*◌, ◌/◌, ◌%◌, ◌^◌, ◌≤◌, ◌<◌}
use native.Mathlib.Nat.{mod-lt}
use native.Mathlib.Omega.{arith}
use lib.Bits.{bit_and, bit_xor, and_zero_r, xor_comm, xor_zero_r}
use lib.Dec.{T, eqb, leb, eqb→eq, leb→le, lit<}
use lib.ListN.{get_or}
use Rattle.bits.specs.Bit.{bit}
use Rattle.bits.specs.Table.{tab}
use Rattle.bits.proofs.Bits.{bit_lt, bit_of_and, bit_of_xor, two, xor_twice}
use Rattle.bits.proofs.Elements.{tab_at}
use Rattle.bits.proofs.Shifts.{bit_shr, bit_shl, bit_cut, and_shl}
use Rattle.bits.proofs.Tests.{all, all_at, and_left, and_right}
use Rattle.transposition.specs.Levels.{word_at, passed, lower, upper, exchanged, level}

-- what a mask for the distance d has at bit n: it has the bits whose weight d is 0, and d places up those whose weight d is 1
abbrev pub suits : ℕ → ℕ → ℕ → Bool
suits d m n = eqb (bit m n) (1 - n / d % 2) && (leb (d * (n / d % 2)) n && eqb (bit (m * 2 ^ d) n) (n / d % 2))

and_one : (a : ℕ) → a < 2 → bit_and a 1 ≡ a
and_one = two (λ (a : ℕ). bit_and a 1 ≡ a) refl refl

-- a + (a + b) is b
xor_back : (a b : ℕ) → bit_xor a (bit_xor a b) ≡ b
xor_back a b = xor_comm a (bit_xor a b) ∙ ap (λ (x : ℕ). bit_xor x a) (xor_comm a b) ∙ xor_twice b a

module _ (d m p q n : ℕ) where
  moved : n < 64 → bit (passed d m p q * 2 ^ d % 2 ^ 64) n ≡ bit_and (bit (bit_xor (p / 2 ^ d) q * 2 ^ d) n) (bit (m * 2 ^ d) n)
  moved h =
      bit_cut (passed d m p q * 2 ^ d) 64 n h
      ∙ ap (λ (x : ℕ). bit x n) (and_shl (bit_xor (p / 2 ^ d) q) m d)
      ∙ bit_of_and (bit_xor (p / 2 ^ d) q * 2 ^ d) (m * 2 ^ d) n

  came : d ≤ n → bit (bit_xor (p / 2 ^ d) q * 2 ^ d) n ≡ bit_xor (bit p n) (bit q (n - d))
  came h =
      let e : n ≡ d + (n - d) = omega arith in
      ap (bit (bit_xor (p / 2 ^ d) q * 2 ^ d)) e
      ∙ bit_shl (bit_xor (p / 2 ^ d) q) d (n - d)
      ∙ bit_of_xor (p / 2 ^ d) q (n - d)
      ∙ ap (λ (x : ℕ). bit_xor x (bit q (n - d))) (bit_shr p d (n - d) ∙ ap (bit p) (sym e))

  lower-bit : n < 64 → (e : ℕ) → e < 2 → d * e ≤ n → bit (m * 2 ^ d) n ≡ e → bit (lower d m p q) n ≡ cond (eqb e 0) (bit p n) (bit q (n - d))
  lower-bit h =
      two (λ (e : ℕ). d * e ≤ n → bit (m * 2 ^ d) n ≡ e → bit (lower d m p q) n ≡ cond (eqb e 0) (bit p n) (bit q (n - d)))
      (λ l k.
      sum
      ∙ ap (λ (x : ℕ). bit_xor (bit p n) (bit_and (bit (bit_xor (p / 2 ^ d) q * 2 ^ d) n) x)) k
      ∙ ap (bit_xor (bit p n)) (and_zero_r (bit (bit_xor (p / 2 ^ d) q * 2 ^ d) n))
      ∙ xor_zero_r (bit p n))
      (λ l k.
      sum
      ∙ ap (λ (x : ℕ). bit_xor (bit p n) (bit_and (bit (bit_xor (p / 2 ^ d) q * 2 ^ d) n) x)) k
      ∙ ap (bit_xor (bit p n)) (and_one (bit (bit_xor (p / 2 ^ d) q * 2 ^ d) n) (bit_lt (bit_xor (p / 2 ^ d) q * 2 ^ d) n) ∙ came (omega arith))
      ∙ xor_back (bit p n) (bit q (n - d)))
    where
      sum : bit (lower d m p q) n ≡ bit_xor (bit p n) (bit_and (bit (bit_xor (p / 2 ^ d) q * 2 ^ d) n) (bit (m * 2 ^ d) n))
      sum = bit_of_xor p (passed d m p q * 2 ^ d % 2 ^ 64) n ∙ ap (bit_xor (bit p n)) (moved h)

  upper-bit : (e : ℕ) → e < 2 → bit m n ≡ 1 - e → bit (upper d m p q) n ≡ cond (eqb e 0) (bit p (d + n)) (bit q n)
  upper-bit =
      two (λ (e : ℕ). bit m n ≡ 1 - e → bit (upper d m p q) n ≡ cond (eqb e 0) (bit p (d + n)) (bit q n))
      (λ k.
      sum
      ∙ ap (λ (x : ℕ). bit_xor (bit q n) (bit_and (bit (bit_xor (p / 2 ^ d) q) n) x)) k
      ∙ ap (bit_xor (bit q n))
      (and_one (bit (bit_xor (p / 2 ^ d) q) n) (bit_lt (bit_xor (p / 2 ^ d) q) n)
      ∙ bit_of_xor (p / 2 ^ d) q n
      ∙ ap (λ (x : ℕ). bit_xor x (bit q n)) (bit_shr p d n)
      ∙ xor_comm (bit p (d + n)) (bit q n))
      ∙ xor_back (bit q n) (bit p (d + n)))
      (λ k.
      sum
      ∙ ap (λ (x : ℕ). bit_xor (bit q n) (bit_and (bit (bit_xor (p / 2 ^ d) q) n) x)) k
      ∙ ap (bit_xor (bit q n)) (and_zero_r (bit (bit_xor (p / 2 ^ d) q) n))
      ∙ xor_zero_r (bit q n))
    where
      sum : bit (upper d m p q) n ≡ bit_xor (bit q n) (bit_and (bit (bit_xor (p / 2 ^ d) q) n) (bit m n))
      sum = bit_of_xor q (passed d m p q) n ∙ ap (bit_xor (bit q n)) (bit_of_and (bit_xor (p / 2 ^ d) q) m n)

-- where bit k of word n comes from: a word and a bit of it
abbrev pub word_from : ℕ → ℕ → ℕ → ℕ
word_from d n k = cond (eqb (n / d % 2) 0) (cond (eqb (k / d % 2) 0) n (n + d)) (cond (eqb (k / d % 2) 0) (n - d) n)

abbrev pub bit_from : ℕ → ℕ → ℕ → ℕ
bit_from d n k = cond (eqb (n / d % 2) 0) (cond (eqb (k / d % 2) 0) k (k - d)) (cond (eqb (k / d % 2) 0) (d + k) k)

-- word n of a level
level_at : (d m : ℕ) (x : List (List ℕ)) (n : ℕ) → n < 128 → word_at (level d m x) n ≡ exchanged d m x n
unfolding level
level_at d m x n h =
    let place : 16 * (n / 16) + n % 16 ≡ n = omega arith in
    ap (λ (r : List ℕ). get_or r (n % 16) 0) (tab_at [] 8 (λ i. tab 16 (λ c. exchanged d m x (16 * i + c))) (n / 16) (omega arith))
    ∙ tab_at 0 16 (λ c. exchanged d m x (16 * (n / 16) + c)) (n % 16) (mod-lt n (lit< tt))
    ∙ ap (exchanged d m x) place

pub level_bit : (d m : ℕ) → T (all 64 (suits d m)) → (x : List (List ℕ)) (n : ℕ) → n < 128 → (k : ℕ) → k < 64
    → bit (word_at (level d m x) n) k ≡ bit (word_at x (word_from d n k)) (bit_from d n k)
level_bit d m t x n hn k hk = ap (λ (w : ℕ). bit w k) (level_at d m x n hn) ∙ by (eqb (n / d % 2) 0)
  where
    e : ℕ
    e = k / d % 2

    test : T (suits d m k)
    test = all_at 64 (suits d m) t k hk

    small : e < 2
    small = mod-lt (k / d) (lit< tt)

    first : bit m k ≡ 1 - e
    first = eqb→eq (bit m k) (1 - e) (and_left (eqb (bit m k) (1 - e)) (leb (d * e) k && eqb (bit (m * 2 ^ d) k) e) test)

    others : T (leb (d * e) k && eqb (bit (m * 2 ^ d) k) e)
    others = and_right (eqb (bit m k) (1 - e)) (leb (d * e) k && eqb (bit (m * 2 ^ d) k) e) test

    inside : d * e ≤ k
    inside = leb→le (d * e) k (and_left (leb (d * e) k) (eqb (bit (m * 2 ^ d) k) e) others)

    second : bit (m * 2 ^ d) k ≡ e
    second = eqb→eq (bit (m * 2 ^ d) k) e (and_right (leb (d * e) k) (eqb (bit (m * 2 ^ d) k) e) others)

    which : (f : Bool) (a b i j : ℕ) → cond f (bit (word_at x a) i) (bit (word_at x b) j) ≡ bit (word_at x (cond f a b)) (cond f i j)
    which true a b i j = refl
    which false a b i j = refl

    by : (f : Bool)
        → bit (cond f (lower d m (word_at x n) (word_at x (n + d))) (upper d m (word_at x (n - d)) (word_at x n))) k
        ≡ bit (word_at x (cond f (cond (eqb e 0) n (n + d)) (cond (eqb e 0) (n - d) n))) (cond f (cond (eqb e 0) k (k - d)) (cond (eqb e 0) (d + k) k))
    by true = lower-bit d m (word_at x n) (word_at x (n + d)) k hk e small inside second ∙ which (eqb e 0) n (n + d) k (k - d)
    by false = upper-bit d m (word_at x (n - d)) (word_at x n) k e small first ∙ which (eqb e 0) (n - d) n (d + k) k
