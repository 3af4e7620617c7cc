-- A matrix times a row is linear, so it is known from the single bits, and from the two bytes of the row.
use mathlib.Core.Path.{◌≡◌, refl, sym, ap, ◌∙◌}
use mathlib.Core.List.{List, [], ◌∷◌}
use Prim.Native.Nat.{ℕ, zero, suc, ◌+◌, ◌-◌, ◌*◌, ◌/◌, ◌%◌, ◌^◌, ◌≤◌, ◌<◌}
use native.Mathlib.Omega.{arith}
use native.Mathlib.Nat.{zero-mul, one-mul, mul-zero, mod-lt}
use native.Mathlib.Numerals.{one-add, add-one}
use lib.Pow.{pow_pos, pow_mono, shr_lt, shr-shr, split}
use lib.Bits.{bit_xor, xor_shr, xor_mod, xor_block, xor_shifted, xor_self, xor_zero_l, xor_zero_r, xor_comm}
use lib.ListN.{length, get_or, drop, drop_of_length-le, length-drop}
use lib.Seq.{drop-cons}
use Rattle.bits.specs.Table.{tab}
use Rattle.bits.proofs.Bits.{two, xor_assoc, xor_left_comm}
use Rattle.bits.proofs.Lists.{get_or_tab}
use Rattle.lbox.specs.Lbox.{dot, times}
use Rattle.lbox.specs.Tables.{looked_up, lows, highs}

pub record Linear (f : ℕ → ℕ) : Type 0 where
  pub none : f 0 ≡ 0
  pub sum : (x y : ℕ) → f (bit_xor x y) ≡ bit_xor (f x) (f y)

-- (a + b) + (c + d) is (a + c) + (b + d)
xor_four : (a b c d : ℕ) → bit_xor (bit_xor a b) (bit_xor c d) ≡ bit_xor (bit_xor a c) (bit_xor b d)
xor_four a b c d = simp (xor_assoc, xor_left_comm)

entry : (b x : ℕ) → x < 2 → (y : ℕ) → y < 2 → b * bit_xor x y ≡ bit_xor (b * x) (b * y)
entry b =
    two (λ (x : ℕ). (y : ℕ) → y < 2 → b * bit_xor x y ≡ bit_xor (b * x) (b * y))
    (two (λ (y : ℕ). b * bit_xor 0 y ≡ bit_xor (b * 0) (b * y))
    (simp mul-zero)
    (simp (mul-zero, xor_zero_l)))
    (two (λ (y : ℕ). b * bit_xor 1 y ≡ bit_xor (b * 1) (b * y))
    (simp (mul-zero, xor_zero_r))
    (simp (mul-zero, xor_self)))

dot_linear : (r : List ℕ) → Linear (dot r)
unfolding dot
dot_linear [] = record { none = refl; sum = λ x y. refl }
dot_linear (b ∷ r) =
    let l : Linear (dot r) = dot_linear r in
    record {
      none = rw (mul-zero, l.none);
      sum = λ x y.
          cc (
            xor_mod x y 1,
            entry b (x % 2) (omega arith) (y % 2) (omega arith),
            xor_shr x y 1,
            l.sum (x / 2) (y / 2),
            xor_four (b * (x % 2)) (dot r (x / 2)) (b * (y % 2)) (dot r (y / 2)),
          );
    }

pub times_linear : (m : List (List ℕ)) → Linear (times m)
unfolding times
times_linear [] = record { none = refl; sum = λ x y. refl }
times_linear (r ∷ m) =
    let l : Linear (times m) = times_linear m in
    let d : Linear (dot r) = dot_linear r in
    record {
      none = omega (arith, l.none, d.none);
      sum = λ x y.
          cc (
            l.sum x y,
            d.sum x y,
            xor_mod (dot r x) (dot r y) 1,
            xor_block 1 (times m x) (times m y) (dot r x % 2) (dot r y % 2) (omega arith) (omega arith),
          );
    }

one_more : (k a b : ℕ) → a < 2 ^ k → a * 2 + b % 2 < 2 ^ suc k
one_more k a b h = omega arith

pub times_lt : (m : List (List ℕ)) (x : ℕ) → times m x < 2 ^ length m
unfolding times
times_lt [] x = omega arith
times_lt (r ∷ m) x = one_more (length m) (times m x) (dot r x) (times_lt m x)

-- linear functions that agree at single bits agree
pub linear_ext : {f g : ℕ → ℕ} → Linear f → Linear g → (k : ℕ) → ((i : ℕ) → i < k → f (2 ^ i) ≡ g (2 ^ i)) → (x : ℕ) → x < 2 ^ k → f x ≡ g x
linear_ext {f} {g} l h zero e x hx =
    let zero_is : x ≡ 0 = omega arith in
    ap f zero_is ∙ l.none ∙ sym h.none ∙ sym (ap g zero_is)
linear_ext {f} {g} l h (suc k) e x hx =
    let top : ℕ = x / 2 ^ k * 2 ^ k in
    let rest : ℕ = x % 2 ^ k in
    let high : f top ≡ g top =
    two (λ (b : ℕ). f (b * 2 ^ k) ≡ g (b * 2 ^ k))
    (rw zero-mul (l.none ∙ sym h.none))
    (rw one-mul (e k (omega arith)))
    (x / 2 ^ k) (shr_lt 1 k (rw one-add hx)) in
    let low : f rest ≡ g rest = linear_ext l h k (λ i hi. e i (omega arith)) rest (mod-lt x (pow_pos k)) in
    let parts : bit_xor top rest ≡ x = xor_shifted (x / 2 ^ k) k rest (mod-lt x (pow_pos k)) ∙ split x k in
    ap f (sym parts) ∙ l.sum top rest ∙ (λ i. bit_xor (high i) (low i)) ∙ sym (h.sum top rest) ∙ ap g parts

-- the product of a row is the sum of the products of its two bytes
pub by_halves : (m : List (List ℕ)) (x : ℕ) → x < 2 ^ 16 → bit_xor (times m (x % 256)) (times m (x / 256 % 256 * 256)) ≡ times m x
by_halves m x hx =
    let lo : ℕ = x % 256 in
    let hi : ℕ = x / 256 % 256 in
    let word : bit_xor lo (hi * 256) ≡ x = xor_comm lo (hi * 256) ∙ xor_shifted hi 8 lo (omega arith) ∙ omega arith in
    sym ((times_linear m).sum lo (hi * 256)) ∙ ap (times m) word

-- the row's two bytes, each through its table
pub by_bytes : (m : List (List ℕ)) (x : ℕ) → x < 2 ^ 16 → looked_up (lows m) (highs m) x ≡ times m x
unfolding lows highs
by_bytes m x hx =
    let low = get_or_tab 256 (λ b. times m b) (x % 256) (omega arith) in
    let high = get_or_tab 256 (λ b. times m (b * 256)) (x / 256 % 256) (omega arith) in
    (λ i. bit_xor (low i) (high i)) ∙ by_halves m x hx

-- a matrix undoes another where it does so at each single bit
pub undone : (m n : List (List ℕ)) → tab 16 (λ i. times n (times m (2 ^ i))) ≡ tab 16 (λ i. 2 ^ i) → (x : ℕ) → x < 2 ^ 16 → times n (times m x) ≡ x
undone m n e =
    let l : Linear (times m) = times_linear m in
    let k : Linear (times n) = times_linear n in
    linear_ext {f = λ x. times n (times m x)} {g = λ x. x}
    (record { none = ap (times n) l.none ∙ k.none; sum = λ x y. ap (times n) (l.sum x y) ∙ k.sum (times m x) (times m y) })
    (record { none = refl; sum = λ x y. refl })
    16
    (λ i h. sym (get_or_tab 16 (λ i. times n (times m (2 ^ i))) i h) ∙ ap (λ (l : List ℕ). get_or l i 0) e ∙ get_or_tab 16 (λ i. 2 ^ i) i h)

-- What a loop from the last entry to the first, and from the last row to the first, adds at each turn.
sub_suc : (i : ℕ) → suc i - 1 ≡ i
sub_suc i = omega arith

dot_from : (r : List ℕ) (i x : ℕ) → i < length r
    → dot (drop i r) (x / 2 ^ i) ≡ bit_xor (get_or r i 0 * (x / 2 ^ i % 2)) (dot (drop (suc i) r) (x / 2 ^ suc i))
unfolding dot
dot_from r i x h =
    ap (λ (l : List ℕ). dot l (x / 2 ^ i)) (drop-cons r i 0 h)
    ∙ ap (λ (y : ℕ). bit_xor (get_or r i 0 * (x / 2 ^ i % 2)) (dot (drop (suc i) r) y)) (shr-shr x i 1 ∙ ap (λ (e : ℕ). x / 2 ^ e) (add-one i))

pub dot_down : (r : List ℕ) (j x : ℕ) → 0 < j → j ≤ length r
    → bit_xor (get_or r (j - 1) 0 * (x / 2 ^ (j - 1) % 2)) (dot (drop j r) (x / 2 ^ j)) ≡ dot (drop (j - 1) r) (x / 2 ^ (j - 1))
dot_down r zero x h hj = absurd (omega arith)
dot_down r (suc i) x h hj = rw (sub_suc i) (sym (dot_from r i x hj))

pub dot_none : (r : List ℕ) (n x : ℕ) → length r ≤ n → 0 ≡ dot (drop n r) x
unfolding dot
dot_none r n x h = rw (drop_of_length-le r h)

times_from : (m : List (List ℕ)) (i x : ℕ) → i < length m → times (drop i m) x ≡ times (drop (suc i) m) x * 2 + dot (get_or m i []) x % 2
unfolding times
times_from m i x h = ap (λ (l : List (List ℕ)). times l x) (drop-cons m i [] h)

pub times_down : (m : List (List ℕ)) (i x : ℕ) → 0 < i → i ≤ length m → times (drop i m) x * 2 + dot (get_or m (i - 1) []) x % 2 ≡ times (drop (i - 1) m) x
times_down m zero x h hi = absurd (omega arith)
times_down m (suc i) x h hi = rw (sub_suc i) (sym (times_from m i x hi))

pub times_none : (m : List (List ℕ)) (n x : ℕ) → length m ≤ n → 0 ≡ times (drop n m) x
unfolding times
times_none m n x h = rw (drop_of_length-le m h)

-- before the last row is added there is room for one bit more
pub times_room : (m : List (List ℕ)) (i x : ℕ) → length m ≤ 16 → 0 < i → times (drop i m) x < 2 ^ 15
times_room m i x hm hi =
    let shorter : length (drop i m) ≤ 15 = rw (length-drop i m) (omega arith) in
    omega (arith, times_lt (drop i m) x, pow_mono shorter)
