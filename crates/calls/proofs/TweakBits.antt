-- What stands in a tweak behind its nonce, bit by bit.
use mathlib.Core.Path.{◌≡◌, refl, sym, ap, ◌∙◌}
use mathlib.Core.List.{List, ◌∷◌, ◌++◌}
use Prim.Native.Nat.{ℕ, zero, suc, ◌+◌, ◌-◌, ◌*◌, ◌/◌, ◌%◌, ◌^◌, ◌≤◌, ◌<◌}
use native.Mathlib.Nat.{zero-add, suc-add, mul-add-div_right, mul-add-mod_self_right, mul_assoc, pow-succ', div-add-mod', zero-div}
use native.Mathlib.Omega.{arith}
use lib.ListN.{length, get_or, take, drop, replicate}
use lib.Pow.{pow_pos, pow-add, shr-shr, high}
use lib.Seq.{take-append_seam, drop-append_seam}
use Rattle.bits.specs.Bit.{bit}
use Rattle.bits.specs.Bytes.{Bytes, big_endian, number_of}
use Rattle.bits.proofs.BigEndian.{big_endian_marked, big_endian_number_of, number_of_lt, bytes_big_endian}
use Rattle.bits.proofs.Bits.{bit_ext}
use Rattle.calls.specs.Tweak.{tweak, text_tweak, header_tweak, special_tweak}
use Rattle.calls.specs.TweakBits.{high_first, bits_of}

bit_shr : (v w u : ℕ) → bit v (w + u) ≡ bit (v / 2 ^ u) w
unfolding bit
bit_shr v w u = ap (λ (x : ℕ). x % 2) (ap (λ (e : ℕ). v / 2 ^ e) (omega arith) ∙ sym (shr-shr v u w))

-- the bits in two parts
high_first_split : (w u v : ℕ) → high_first (w + u) v ≡ high_first w (v / 2 ^ u) ++ high_first u v
unfolding high_first
high_first_split zero u v = ap (λ (n : ℕ). high_first n v) (zero-add u)
high_first_split (suc w) u v = ap (λ (n : ℕ). high_first n v) (suc-add w u) ∙ (λ i. bit_shr v w u i ∷ high_first_split w u v i)

-- what is added at bit u and above does not show below
high_first_above : (u a b : ℕ) → high_first u (a * 2 ^ u + b) ≡ high_first u b
unfolding high_first bit
high_first_above zero a b = refl
high_first_above (suc u) a b =
    let shift : a * 2 ^ suc u ≡ a * 2 * 2 ^ u = ap (λ (x : ℕ). a * x) (pow-succ' 2 u) ∙ sym (mul_assoc a 2 (2 ^ u)) in
    let one : (a * 2 * 2 ^ u + b) / 2 ^ u % 2 ≡ b / 2 ^ u % 2 =
    ap (λ (x : ℕ). x % 2) (mul-add-div_right (pow_pos u) (a * 2) b) ∙ mul-add-mod_self_right a 2 (b / 2 ^ u) in
    ap (λ (x : ℕ). high_first (suc u) (x + b)) shift ∙ (λ i. one i ∷ high_first_above u (a * 2) b i)

-- two numbers in one, the second in the lowest u bits
high_first_joined : (w u a b : ℕ) → b < 2 ^ u → high_first (w + u) (a * 2 ^ u + b) ≡ high_first w a ++ high_first u b
high_first_joined w u a b h = high_first_split w u (a * 2 ^ u + b) ∙ (λ i. high_first w (high a u h i) ++ high_first_above u a b i)

pow_bits : (k : ℕ) → 256 ^ k ≡ 2 ^ (8 * k)
pow_bits zero = refl
pow_bits (suc k) =
    let eight : 8 + 8 * k ≡ 8 * suc k = omega arith in
    pow-succ' 256 k ∙ ap (λ (x : ℕ). 256 * x) (pow_bits k) ∙ sym (pow-add 2 8 (8 * k)) ∙ ap (λ (e : ℕ). 2 ^ e) eight

-- big-endian bytes have their number's bits, highest bit first
bits_big_endian : (k v : ℕ) → bits_of (big_endian k v) ≡ high_first (8 * k) v
unfolding bits_of big_endian high_first
bits_big_endian zero v = refl
bits_big_endian (suc k) v =
    let x : ℕ = v / 256 ^ k in
    let byte : high_first 8 (x % 256) ≡ high_first 8 (v / 2 ^ (8 * k)) =
    sym (high_first_above 8 (x / 256) (x % 256)) ∙ ap (high_first 8) (div-add-mod' x 256 ∙ ap (λ (p : ℕ). v / p) (pow_bits k)) in
    let eight : 8 + 8 * k ≡ 8 * suc k = omega arith in
    (λ i. byte i ++ bits_big_endian k v i)
    ∙ sym (high_first_split 8 (8 * k) v)
    ∙ ap (λ (n : ℕ). high_first n v) eight

-- which bit stands at place u of w, and so a number by its bits
bit_at : (u j w v : ℕ) → w ≡ suc (j + u) → get_or (high_first w v) u 0 ≡ bit v j
unfolding high_first
bit_at zero j (suc w) v h = ap (bit v) (omega arith)
bit_at (suc u) j (suc w) v h = bit_at u j w v (omega arith)
bit_at u j zero v h = omega arith

high_first_inj : (w : ℕ) {a b : ℕ} → a < 2 ^ w → b < 2 ^ w → high_first w a ≡ high_first w b → a ≡ b
high_first_inj w {a} {b} ha hb e =
    bit_ext w ha hb
    (λ j h.
    let u : ℕ = w - suc j in
    let place : w ≡ suc (j + u) = omega arith in
    sym (bit_at u j w a place) ∙ ap (λ (l : List ℕ). get_or l u 0) e ∙ bit_at u j w b place)

-- a string of bytes by its bits
pub bits_one : (s t : List ℕ) → Bytes s → Bytes t → length s ≡ length t → bits_of s ≡ bits_of t → s ≡ t
bits_one s t hs ht long e =
    let numbers : number_of s ≡ number_of t =
    high_first_inj (8 * length s) (below s hs) (rw (sym long) at (below t ht))
    (sym (bits-of s hs) ∙ e ∙ bits-of t ht ∙ ap (λ (n : ℕ). high_first (8 * n) (number_of t)) (sym long)) in
    sym (big_endian_number_of s hs) ∙ (λ i. big_endian (long i) (numbers i)) ∙ big_endian_number_of t ht
  where
    below : (x : List ℕ) → Bytes x → number_of x < 2 ^ (8 * length x)
    below x h = rw pow_bits at (number_of_lt x h)

    bits-of : (x : List ℕ) → Bytes x → bits_of x ≡ high_first (8 * length x) (number_of x)
    bits-of x h = ap bits_of (sym (big_endian_number_of x h)) ∙ bits_big_endian (length x) (number_of x)

-- "A nonce .. stands first."
pub tweak_first : (nonce : List ℕ) (mark v : ℕ) → take (length nonce) (tweak nonce mark v) ≡ nonce
unfolding tweak
tweak_first nonce mark v = take-append_seam nonce (big_endian (16 - length nonce) (mark * 256 ^ (15 - length nonce) + v))

-- behind it stand bytes
pub tweak_rest : (nonce : List ℕ) (mark v : ℕ) → Bytes (drop (length nonce) (tweak nonce mark v))
unfolding tweak
tweak_rest nonce mark v =
    let k : ℕ = 16 - length nonce in
    let x : ℕ = mark * 256 ^ (15 - length nonce) + v in
    rw (drop-append_seam nonce (big_endian k x)) (bytes_big_endian k x)

module _ (nonce : List ℕ) (i : ℕ) (hn : length nonce ≤ 15) where
  -- a mark whose first w bits are those of a: these bits, and behind them the number
  marked-bits : (mark w a : ℕ) → w ≤ 8 → mark ≡ a * 2 ^ (8 - w) → i < 2 ^ (128 - w - 8 * length nonce)
      → bits_of (drop (length nonce) (tweak nonce mark i)) ≡ high_first w a ++ high_first (128 - w - 8 * length nonce) i
  unfolding tweak
  marked-bits mark w a hw hm h =
      let k : ℕ = 15 - length nonce in
      let u : ℕ = 128 - w - 8 * length nonce in
      let width : 8 * (16 - length nonce) ≡ w + u = omega arith in
      let rest : 8 - w + 8 * k ≡ u = omega arith in
      let high_bits : mark * 256 ^ k ≡ a * 2 ^ u =
      (λ j. hm j * pow_bits k j)
      ∙ mul_assoc a (2 ^ (8 - w)) (2 ^ (8 * k))
      ∙ ap (λ (x : ℕ). a * x) (sym (pow-add 2 (8 - w) (8 * k)) ∙ ap (λ (e : ℕ). 2 ^ e) rest) in
      ap bits_of (drop-append_seam nonce (big_endian (16 - length nonce) (mark * 256 ^ k + i)))
      ∙ bits_big_endian (16 - length nonce) (mark * 256 ^ k + i)
      ∙ (λ j. high_first (width j) (high_bits j + i))
      ∙ high_first_joined w u a i h

  -- "After the nonce, highest bit first, number big-endian in all remaining bits: not-last text block 0 and number"
  pub text_bits : i < 2 ^ (127 - 8 * length nonce) → bits_of (drop (length nonce) (text_tweak nonce i)) ≡ 0 ∷ high_first (127 - 8 * length nonce) i
  unfolding high_first bit
  text_bits h = marked-bits 0x00 1 0 (omega arith) refl h

  -- "not-last header block 10 and number"
  pub header_bits : i < 2 ^ (126 - 8 * length nonce) → bits_of (drop (length nonce) (header_tweak nonce i)) ≡ 1 ∷ 0 ∷ high_first (126 - 8 * length nonce) i
  unfolding high_first bit
  header_bits h = marked-bits 0x80 2 2 (omega arith) refl h

-- "Special tweaks have after the nonce one byte, then zeros"
pub special_bytes : (nonce : List ℕ) (byte : ℕ) → length nonce ≤ 15 → byte < 256
    → special_tweak nonce byte ≡ nonce ++ byte ∷ replicate (15 - length nonce) 0
unfolding tweak big_endian
special_bytes nonce byte hn hb =
    let k : ℕ = 15 - length nonce in
    let width : 16 - length nonce ≡ suc k = omega arith in
    let first : (byte + 0 / 256 ^ k) % 256 ≡ byte = omega (arith, zero-div (256 ^ k)) in
    ap (λ (n : ℕ). nonce ++ big_endian n (byte * 256 ^ k + 0)) width
    ∙ ap (λ (s : List ℕ). nonce ++ s) (big_endian_marked k byte 0 ∙ (λ i. first i ∷ zeros k i))
  where
    zeros : (k : ℕ) → big_endian k 0 ≡ replicate k 0
    zeros zero = refl
    zeros (suc k) =
        let byte : 0 / 256 ^ k % 256 ≡ 0 = omega (arith, zero-div (256 ^ k)) in
        λ i. byte i ∷ zeros k i
