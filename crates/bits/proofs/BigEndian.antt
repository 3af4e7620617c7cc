-- Laws of a number's bytes, the highest first, and of strings of bytes one behind the other.
use mathlib.Core.Path.{◌≡◌, refl, sym, ap, ◌∙◌}
use mathlib.Core.List.{List, [], ◌∷◌, ◌++◌, head-eq_of_cons-eq, tail-eq_of_cons-eq}
use Prim.Native.Nat.{ℕ, zero, suc, ◌+◌, ◌*◌, ◌/◌, ◌%◌, ◌^◌, ◌≤◌, ◌<◌}
use native.Mathlib.Nat.{
  zero-lt-suc,
  one-le-pow,
  pow-succ',
  mul_assoc,
  mul-add-div_right,
  mul-add-mod_self_right,
  mod-lt,
  mod-eq_of_lt,
  div-add-mod',
  div-lt_iff_lt-mul,
  div-eq_of_lt,
  mul-le-mul_right,
  div-div-eq-div-mul,
  pow-suc,
}
use native.Mathlib.Omega.{arith}
use lib.ListN.{length, get_or, set, take, length-append}
use lib.Seq.{set_at, take-suc, append_snoc, length-take-le}
use Rattle.bits.specs.Bytes.{Bytes, big_endian, number_of}
use Rattle.bits.proofs.Bytes.{bytes_tail}

pub length_big_endian : (k v : ℕ) → length (big_endian k v) ≡ k
unfolding big_endian
length_big_endian zero v = refl
length_big_endian (suc k) v = ap suc (length_big_endian k v)

pub bytes_big_endian : (k v : ℕ) → Bytes (big_endian k v)
unfolding big_endian
bytes_big_endian k v = record { fit = fit k }
  where
    fit : (k i : ℕ) → get_or (big_endian k v) i 0 < 256
    fit zero i = zero-lt-suc 255
    fit (suc k) zero = mod-lt (v / 256 ^ k) (zero-lt-suc 255)
    fit (suc k) (suc i) = fit k i

pub pow_256_pos : (k : ℕ) → 0 < 256 ^ k
pow_256_pos k = one-le-pow k 256 (zero-lt-suc 255)

-- what is added at byte k and above does not show below
pub big_endian_above : (k m v : ℕ) → big_endian k (m * 256 ^ k + v) ≡ big_endian k v
unfolding big_endian
big_endian_above zero m v = refl
big_endian_above (suc k) m v =
    let shift : m * 256 ^ suc k ≡ m * 256 * 256 ^ k = ap (λ (x : ℕ). m * x) (pow-succ' 256 k) ∙ sym (mul_assoc m 256 (256 ^ k)) in
    let byte : (m * 256 * 256 ^ k + v) / 256 ^ k % 256 ≡ v / 256 ^ k % 256 =
    ap (λ (x : ℕ). x % 256) (mul-add-div_right (pow_256_pos k) (m * 256) v) ∙ mul-add-mod_self_right m 256 (v / 256 ^ k) in
    ap (λ (x : ℕ). big_endian (suc k) (x + v)) shift ∙ (λ i. byte i ∷ big_endian_above k (m * 256) v i)

-- a mark in byte k
pub big_endian_marked : (k m v : ℕ) → big_endian (suc k) (m * 256 ^ k + v) ≡ (m + v / 256 ^ k) % 256 ∷ big_endian k v
unfolding big_endian
big_endian_marked k m v = λ i. mul-add-div_right (pow_256_pos k) m v i % 256 ∷ big_endian_above k m v i

pub big_endian_inj : (k : ℕ) {v w : ℕ} → v < 256 ^ k → w < 256 ^ k → big_endian k v ≡ big_endian k w → v ≡ w
unfolding big_endian
big_endian_inj zero hv hw e = omega arith
big_endian_inj (suc k) {v} {w} hv hw e =
    let high : v / 256 ^ k ≡ w / 256 ^ k = sym (mod-eq_of_lt (digit v hv)) ∙ head-eq_of_cons-eq e ∙ mod-eq_of_lt (digit w hw) in
    let low : v % 256 ^ k ≡ w % 256 ^ k =
    big_endian_inj k (mod-lt v (pow_256_pos k)) (mod-lt w (pow_256_pos k)) (lower v ∙ tail-eq_of_cons-eq e ∙ sym (lower w)) in
    sym (div-add-mod' v (256 ^ k)) ∙ (λ i. high i * 256 ^ k + low i) ∙ div-add-mod' w (256 ^ k)
  where
    digit : (x : ℕ) → x < 256 ^ suc k → x / 256 ^ k < 256
    digit x h = (div-lt_iff_lt-mul (pow_256_pos k)).1 (rw pow-succ' at h)

    lower : (x : ℕ) → big_endian k (x % 256 ^ k) ≡ big_endian k x
    lower x = sym (big_endian_above k (x / 256 ^ k) (x % 256 ^ k)) ∙ ap (big_endian k) (div-add-mod' x (256 ^ k))

pub number_of_lt : (s : List ℕ) → Bytes s → number_of s < 256 ^ length s
unfolding number_of
number_of_lt [] h = omega arith
number_of_lt (b ∷ s) h =
    let low : number_of s < 256 ^ length s = number_of_lt s (bytes_tail b s h) in
    let high : suc b * 256 ^ length s ≤ 256 * 256 ^ length s = mul-le-mul_right (256 ^ length s) (h.fit 0) in
    omega (arith, pow-succ' 256 (length s))

-- the bytes of that number
pub big_endian_number_of : (s : List ℕ) → Bytes s → big_endian (length s) (number_of s) ≡ s
unfolding big_endian number_of
big_endian_number_of [] h = refl
big_endian_number_of (b ∷ s) h =
    let none : number_of s / 256 ^ length s ≡ 0 = div-eq_of_lt (number_of_lt s (bytes_tail b s h)) in
    let byte : (b + number_of s / 256 ^ length s) % 256 ≡ b = omega (arith, none, h.fit 0) in
    big_endian_marked (length s) b (number_of s) ∙ (λ i. byte i ∷ big_endian_number_of s (bytes_tail b s h) i)

-- and the number of a number's bytes
pub number_of_big_endian : (k v : ℕ) → v < 256 ^ k → number_of (big_endian k v) ≡ v
number_of_big_endian k v h =
    let long : length (big_endian k v) ≡ k = length_big_endian k v in
    big_endian_inj k (rw long at (number_of_lt (big_endian k v) (bytes_big_endian k v))) h
    (ap (λ (n : ℕ). big_endian n (number_of (big_endian k v))) (sym long) ∙ big_endian_number_of (big_endian k v) (bytes_big_endian k v))

-- one byte more
pub number_of_snoc : (s : List ℕ) (b : ℕ) → number_of (s ++ b ∷ []) ≡ number_of s * 256 + b
unfolding number_of
number_of_snoc [] b = omega arith
number_of_snoc (a ∷ s) b =
    let long : length (s ++ b ∷ []) ≡ suc (length s) = length-append s (b ∷ []) ∙ omega arith in
    let e : 256 ^ length (s ++ b ∷ []) ≡ 256 * 256 ^ length s = ap (λ (n : ℕ). 256 ^ n) long ∙ pow-succ' 256 (length s) in
    ap (λ (x : ℕ). a * x + number_of (s ++ b ∷ [])) e
    ∙ ap (λ (x : ℕ). a * (256 * 256 ^ length s) + x) (number_of_snoc s b)
    ∙ omega (arith, mul_assoc a 256 (256 ^ length s))

-- written from the back: what is left of a number, and one byte more of it
pub number_rest : (k v : ℕ) → v / 256 ^ k / 256 ≡ v / 256 ^ suc k
number_rest k v = div-div-eq-div-mul v (256 ^ k) 256 ∙ ap (λ (p : ℕ). v / p) (sym (pow-suc 256 k))

pub number_more : (b rest : List ℕ) (i k v : ℕ) → i < length b
    → set (take (suc i) b ++ (big_endian k v ++ rest)) i (v / 256 ^ k % 256) ≡ take i b ++ (big_endian (suc k) v ++ rest)
unfolding big_endian
number_more b rest i k v h =
    ap (λ (r : List ℕ). set (r ++ (big_endian k v ++ rest)) i (v / 256 ^ k % 256)) (take-suc b i 0 h)
    ∙ ap (λ (r : List ℕ). set r i (v / 256 ^ k % 256)) (append_snoc (take i b) (get_or b i 0) (big_endian k v ++ rest))
    ∙ set_at (take i b) (get_or b i 0) (big_endian k v ++ rest) (v / 256 ^ k % 256) i (length-take-le i b (omega arith))
