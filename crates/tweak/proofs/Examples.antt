-- The examples hold.
use mathlib.Core.Path.{◌≡◌, refl, ap, ◌∙◌}
use mathlib.Core.List.{List, ◌++◌}
use Prim.Native.Nat.{ℕ, ◌+◌, ◌-◌, ◌*◌, ◌≤◌, ◌<◌}
use native.Mathlib.Omega.{arith}
use lib.ListN.{length, replicate, length-replicate}
use Rattle.bits.specs.Bytes.{big_endian}
use Rattle.calls.specs.Tweak.{tweak, text_tweak, header_tweak, blocks_of}
use Rattle.limits.specs.Limits.{header_limit, text_limit}
use Rattle.tweak.specs.Examples.{some_nonce, LastNumbers, TweakExamples}
use Rattle.tweak.specs.TweakLaw.{IsTweak, WithinLimits}
use Rattle.tweak.proofs.Law.{tweak_law}

-- the law at each of so many numbers, made in one run
each : {limit : ℕ → ℕ} {tweak_of : List ℕ → ℕ → List ℕ} {mark : List ℕ} → WithinLimits limit tweak_of mark
    → (n : ℕ) → n ≤ 15 → (blocks : ℕ) → blocks_of (limit n) ≡ blocks
    → (i : ℕ) → i < blocks → IsTweak (some_nonce n) mark i (tweak_of (some_nonce n) i)
each {limit} law n short blocks h i l =
    let long : length (some_nonce n) ≡ n = length-replicate n 0xA5 in
    let room : blocks_of (limit (length (some_nonce n))) ≡ blocks = ap (λ (l : ℕ). blocks_of (limit l)) long ∙ h in
    let here : 0 + i ≡ i = omega arith in
    let lent : List ℕ = replicate (16 * blocks) 0 in
    let whole : length lent ≡ 16 * blocks = length-replicate (16 * blocks) 0 in
    rw here at ((law.makes (some_nonce n) (omega arith) 0 blocks (omega arith) lent (omega arith)).scope i l)

under : (n texts headers : ℕ) {text header : List ℕ} → n ≤ 15
    → blocks_of (text_limit n) ≡ texts → blocks_of (header_limit n) ≡ headers
    → text_tweak (some_nonce n) (texts - 1) ≡ some_nonce n ++ text → header_tweak (some_nonce n) (headers - 1) ≡ some_nonce n ++ header
    → LastNumbers n texts headers text header
under n texts headers short text_blocks header_blocks text_is header_is =
    record {
      text_blocks = text_blocks;
      header_blocks = header_blocks;
      text_is = text_is;
      header_is = header_is;
      text_law = each tweak_law.text n short texts text_blocks;
      header_law = each tweak_law.header n short headers header_blocks;
    }

pub tweak_examples : TweakExamples
unfolding tweak big_endian header_limit text_limit
tweak_examples =
    record {
      under13 = under 13 1048576 1048576 (omega arith) refl refl refl refl;
      under14 = under 14 32768 16384 (omega arith) refl refl refl refl;
      under15 = under 15 128 64 (omega arith) refl refl refl refl;
      text65536 = refl;
      header65536 = refl;
    }
