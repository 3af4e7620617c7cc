-- The law of the tweaks within the limits.
use mathlib.Core.Path.{◌≡◌, sym, ap, ◌∙◌}
use mathlib.Core.List.{List, [], ◌∷◌, ◌++◌}
use Prim.Native.Nat.{ℕ, ◌+◌, ◌-◌, ◌*◌, ◌^◌, ◌≤◌, ◌<◌}
use native.Mathlib.Nat.{le_of_eq}
use native.Mathlib.Omega.{arith}
use lib.ListN.{length, drop, length-drop, take-append-drop}
use Rattle.blockwise.specs.Blocks.{block, strung}
use Rattle.blockwise.proofs.Each.{block_append, block_of_strung, strung_whole}
use Rattle.calls.specs.Tweak.{tweak, blocks_of}
use Rattle.calls.specs.TweakBits.{high_first, bits_of}
use Rattle.calls.proofs.TweakBits.{tweak_first, tweak_rest, text_bits, header_bits, special_bytes, bits_one}
use Rattle.calls.proofs.Tweaks.{length_tweak}
use Rattle.limits.specs.Limits.{header_limit, text_limit}
use Rattle.limits.proofs.Passed.{header_limit_most, text_limit_most}
use Rattle.tweak.specs.Made.{made_in}
use Rattle.tweak.specs.TweakLaw.{IsTweak, WithinLimits, TweakLaw}
use Rattle.tweak.proofs.Limits.{text_fits, header_fits}

-- each block of what is made
made_block : (tweak_of : ℕ → List ℕ) → ((i : ℕ) → length (tweak_of i) ≡ 16) → (first k : ℕ) (lent : List ℕ) (i : ℕ) → i < k
    → block (made_in tweak_of first k lent) i ≡ tweak_of (first + i)
made_block tweak_of long first k lent i h =
    let g : ℕ → List ℕ = λ j. tweak_of (first + j) in
    let whole : length (strung k g) ≡ 16 * k = strung_whole k g (λ j l. long (first + j)) in
    block_append (strung k g) (drop (16 * k) lent) i (omega arith)
    ∙ block_of_strung k g (λ j l. long (first + j)) (λ j l. le_of_eq (long (first + j))) i h

-- by the mark's byte and its bits, from where each number fits and what its tweak is bit by bit
module _ (limit : ℕ → ℕ) (byte : ℕ) (mark : List ℕ) (most : (n : ℕ) → limit n ≤ 2 ^ 24)
    (fits : (nonce : List ℕ) → length nonce ≤ 15 → (i : ℕ) → i < blocks_of (limit (length nonce)) → i < 2 ^ (128 - length mark - 8 * length nonce))
    (bits : (nonce : List ℕ) (i : ℕ) → length nonce ≤ 15 → i < 2 ^ (128 - length mark - 8 * length nonce)
    → bits_of (drop (length nonce) (tweak nonce byte i)) ≡ mark ++ high_first (128 - length mark - 8 * length nonce) i) where
  within-limits : WithinLimits limit (λ nonce i. tweak nonce byte i) mark
  within-limits =
      record {
        small = λ n i h. omega (arith, most n);
        makes = λ nonce short first k h lent room.
            record {
              makeable = record { short = short; room = room; fits = omega (arith, most (length nonce)) };
              made = made_block (tweak nonce byte) (λ i. length_tweak nonce byte i (omega arith)) first k lent;
              scope = λ i l.
                  record {
                    long = length_tweak nonce byte (first + i) (omega arith);
                    bytes = tweak_rest nonce byte (first + i);
                    nonce_first = tweak_first nonce byte (first + i);
                    fits = fits nonce short (first + i) (omega arith);
                    then_number = bits nonce (first + i) short (fits nonce short (first + i) (omega arith));
                  };
            };
      }

-- the nonce, then bytes that their bits say
one : (nonce mark : List ℕ) (number : ℕ) (t u : List ℕ) → IsTweak nonce mark number t → IsTweak nonce mark number u → t ≡ u
one nonce mark number t u x y =
    let n : ℕ = length nonce in
    let long : length (drop n t) ≡ length (drop n u) = length-drop n t ∙ ap (λ (l : ℕ). l - n) (x.long ∙ sym y.long) ∙ sym (length-drop n u) in
    let rest : drop n t ≡ drop n u =
    bits_one (drop n t) (drop n u) x.bytes y.bytes long (x.then_number ∙ sym y.then_number) in
    sym (take-append-drop n t) ∙ (λ i. (x.nonce_first ∙ sym y.nonce_first) i ++ rest i) ∙ take-append-drop n u

pub tweak_law : TweakLaw
tweak_law =
    record {
      text = within-limits text_limit 0x00 (0 ∷ []) text_limit_most text_fits text_bits;
      header = within-limits header_limit 0x80 (1 ∷ 0 ∷ []) header_limit_most header_fits header_bits;
      one = one;
      special = λ nonce short byte small. special_bytes nonce byte short small;
    }
