-- Within the limits a block number leaves the first bits behind the nonce free: the tweaks of a header and a text, bit by bit.
use mathlib.Core.Path.{◌≡◌, ap, ◌∙◌}
use mathlib.Core.Bool.{true}
use mathlib.Core.List.{List, ◌∷◌}
use Prim.Native.Nat.{ℕ, suc, ◌+◌, ◌-◌, ◌*◌, ◌^◌, ◌≤◌, ◌<◌, min}
use native.Mathlib.Omega.{arith}
use lib.ListN.{length, drop}
use lib.Pow.{pow-add}
use borrow.Author.Tests.{ltb-true}
use Rattle.limits.specs.Limits.{header_limit, text_limit}
use Rattle.calls.specs.Tweak.{text_tweak, header_tweak, blocks_of, inner}
use Rattle.calls.specs.TweakBits.{high_first, bits_of}
use Rattle.calls.proofs.TweakBits.{text_bits, header_bits}

-- the number of a block of a string within its limit fits into the bits that are left for it, 8 * n fewer than w under a nonce of n bytes
limit_fits : (w n i : ℕ) → 8 * n ≤ w → i < blocks_of (min (2 ^ (w + 4 - 8 * n)) (2 ^ 24)) → i < 2 ^ (w - 8 * n)
limit_fits w n i h l =
    let width : w + 4 - 8 * n ≡ 4 + (w - 8 * n) = omega arith in
    let bytes : 2 ^ (w + 4 - 8 * n) ≡ 16 * 2 ^ (w - 8 * n) = ap (λ (e : ℕ). 2 ^ e) width ∙ pow-add 2 4 (w - 8 * n) in
    omega arith

module _ (nonce : List ℕ) (short : length nonce ≤ 15) (i : ℕ) where
  pub text_fits : i < blocks_of (text_limit (length nonce)) → i < 2 ^ (127 - 8 * length nonce)
  unfolding text_limit
  text_fits h = limit_fits 127 (length nonce) i (omega arith) h

  pub header_fits : i < blocks_of (header_limit (length nonce)) → i < 2 ^ (126 - 8 * length nonce)
  unfolding header_limit
  header_fits h = limit_fits 126 (length nonce) i (omega arith) h

-- so does that of a block that is not last, in a string of m bytes
inner_below : (m i limit : ℕ) → inner m i ≡ true → m ≤ limit → i < blocks_of limit
inner_below m i limit t h = omega (arith, ltb-true (suc i) (blocks_of m) t)

module _ (nonce : List ℕ) (short : length nonce ≤ 15) (m i : ℕ) (not_last : inner m i ≡ true) where
  -- "After the nonce, highest bit first, number big-endian in all remaining bits: not_last text block 0 and number", of a text of m bytes
  pub text_tweak_bits : m ≤ text_limit (length nonce) → bits_of (drop (length nonce) (text_tweak nonce i)) ≡ 0 ∷ high_first (127 - 8 * length nonce) i
  text_tweak_bits h = text_bits nonce i short (text_fits nonce short i (inner_below m i (text_limit (length nonce)) not_last h))

  -- "not_last header block 10 and number", of a header of m bytes
  pub header_tweak_bits : m ≤ header_limit (length nonce) → bits_of (drop (length nonce) (header_tweak nonce i)) ≡ 1 ∷ 0 ∷ high_first (126 - 8 * length nonce) i
  header_tweak_bits h = header_bits nonce i short (header_fits nonce short i (inner_below m i (header_limit (length nonce)) not_last h))
