-- Laws of the tweaks: their form, and that the nonce and the number can be read from them.
use mathlib.Core.Path.{◌≡◌, refl, sym, ap, ◌∙◌}
use mathlib.Core.List.{List, ◌++◌, append_cancel_left}
use Prim.Native.Nat.{ℕ, ◌+◌, ◌-◌, ◌*◌, ◌^◌, ◌≤◌, ◌<◌}
use native.Mathlib.Nat.{pow-succ'}
use native.Mathlib.Omega.{arith}
use lib.ListN.{length, take, length-append}
use lib.Seq.{take_at}
use Rattle.bits.specs.Bytes.{Bytes, big_endian}
use Rattle.bits.proofs.BigEndian.{length_big_endian, bytes_big_endian, big_endian_inj}
use Rattle.bits.proofs.Bytes.{bytes_append}
use Rattle.calls.specs.Tweak.{tweak}

pub length_tweak : (nonce : List ℕ) (mark v : ℕ) → length nonce ≤ 16 → length (tweak nonce mark v) ≡ 16
unfolding tweak
length_tweak nonce mark v h = simp (length-append, length_big_endian) (omega arith)

pub bytes_tweak : (nonce : List ℕ) (mark v : ℕ) → Bytes nonce → Bytes (tweak nonce mark v)
unfolding tweak
bytes_tweak nonce mark v h =
    let k = 16 - length nonce in
    let x = mark * 256 ^ (15 - length nonce) + v in
    bytes_append nonce (big_endian k x) h (bytes_big_endian k x)

-- equal tweaks have equal nonces
pub tweak_nonce : (n₁ n₂ : List ℕ) (m₁ v₁ m₂ v₂ : ℕ) → length n₁ ≡ length n₂ → tweak n₁ m₁ v₁ ≡ tweak n₂ m₂ v₂ → n₁ ≡ n₂
unfolding tweak
tweak_nonce n₁ n₂ m₁ v₁ m₂ v₂ l e = sym (take_at n₁ _ (length n₁) refl) ∙ ap (take (length n₁)) e ∙ take_at n₂ _ (length n₁) (sym l)

-- equal tweaks under one nonce have equal numbers after it
pub tweak_inj : (nonce : List ℕ) → length nonce ≤ 15 → (m₁ v₁ m₂ v₂ : ℕ)
    → m₁ * 256 ^ (15 - length nonce) + v₁ < 256 * 256 ^ (15 - length nonce)
    → m₂ * 256 ^ (15 - length nonce) + v₂ < 256 * 256 ^ (15 - length nonce)
    → tweak nonce m₁ v₁ ≡ tweak nonce m₂ v₂ → m₁ * 256 ^ (15 - length nonce) + v₁ ≡ m₂ * 256 ^ (15 - length nonce) + v₂
unfolding tweak
tweak_inj nonce h m₁ v₁ m₂ v₂ h₁ h₂ e =
    let k : 256 ^ (16 - length nonce) ≡ 256 * 256 ^ (15 - length nonce) =
    ap (λ (x : ℕ). 256 ^ x) (omega arith) ∙ pow-succ' 256 (15 - length nonce) in
    big_endian_inj (16 - length nonce) (rw k h₁) (rw k h₂) (append_cancel_left nonce _ _ e)

-- a mark can be counted into the number
pub tweak_number : (nonce : List ℕ) (m v : ℕ) → tweak nonce m v ≡ tweak nonce 0 (m * 256 ^ (15 - length nonce) + v)
unfolding tweak
tweak_number nonce m v = ap (λ (x : ℕ). nonce ++ big_endian (16 - length nonce) x) (omega arith)
