-- The tweaks and the blocks of the calls of a text's last blocks, as they are put; and the calls' outcomes, as they are placed.
use mathlib.Core.Path.{◌≡◌, refl, sym, ap, ◌∙◌}
use mathlib.Core.Bool.{Bool, true, false, cond, ◌&&◌}
use mathlib.Core.List.{List, ◌++◌}
use Prim.Native.Nat.{ℕ, suc, ◌+◌, ◌-◌, ◌*◌, ◌%◌, ◌≤◌, ◌<◌}
use native.Mathlib.Decide.{ℕ_discrete}
use native.Mathlib.Nat.{le_of_eq}
use native.Mathlib.Numerals.{add-one}
use native.Mathlib.Omega.{arith}
use borrow.Author.Tests.{ltb-true, lt-ltb, le-ltb}
use lib.Dec.{eqb, ltb}
use lib.ListN.{length, take, drop, length-drop}
use lib.Seq.{paste, take_all}
use Rattle.bits.specs.Bytes.{added}
use Rattle.blockwise.specs.Blocks.{block, strung}
use Rattle.blockwise.proofs.Each.{block_long, strung_ext}
use Rattle.calls.specs.Calls.{length_block}
use Rattle.calls.specs.Tweak.{text_tweak, special_tweak, blocks_of, inner, last_text_mark}
use Rattle.calls.proofs.Tweaks.{length_tweak}
use Rattle.batch.specs.Batch.{put_first, text_tweak_of, text_block_of}
use Rattle.batch.proofs.Put.{put_is, put_copied, put_more}

pub text_tweak_long : (nonce : List ℕ) (m i : ℕ) → length nonce ≤ 15 → length (text_tweak_of nonce m i) ≡ 16
text_tweak_long nonce m i short = either (inner m i)
  where
    either : (c : Bool) → length (cond c (text_tweak nonce i) (special_tweak nonce (last_text_mark m))) ≡ 16
    either true = length_tweak nonce 0x00 i (omega arith)
    either false = length_tweak nonce (last_text_mark m) 0 (omega arith)

-- a block that is not last is whole
pub text_block_long : (m i : ℕ) (b : List ℕ) → (inner m i ≡ true → length b ≡ 16) → length (text_block_of m i b) ≡ 16
unfolding length_block
text_block_long m i b whole = either (inner m i) whole
  where
    either : (c : Bool) → (c ≡ true → length b ≡ 16) → length (cond c b (length_block (length b))) ≡ 16
    either true w = w refl
    either false w = refl

-- a text whose last block is one of n bytes at its end is full where they are
pub mark_of_rest : (first n : ℕ) → 0 < n → last_text_mark n ≡ last_text_mark (16 * first + n)
mark_of_rest first n some =
    let there : ltb 0 n ≡ ltb 0 (16 * first + n) = lt-ltb 0 n some ∙ sym (lt-ltb 0 (16 * first + n) (omega arith)) in
    let behind : n % 16 ≡ (16 * first + n) % 16 = omega arith in
    λ j. cond (there j && eqb (behind j) 0) 0xC0 0xC8

-- the last block, behind n others
take_last : (s : List ℕ) (n : ℕ) → n + 1 ≡ blocks_of (length s) → drop (16 * n) s ≡ block s n
take_last s n count = sym (take_all 16 (drop (16 * n) s) (rw length-drop (omega arith)))

-- what the outcomes o of a text's rest s become
module _ (s o : List ℕ) where
  abbrev placed : ℕ → List ℕ
  placed i = cond (inner (length s) i) (block o i) (added (block s i) (block o i))

  pub placed_none : length s ≡ 0 → s ≡ strung (blocks_of (length s)) placed
  unfolding strung
  placed_none e =
      let none : 0 ≡ blocks_of (length s) = omega arith in
      sym (take_all 0 s (le_of_eq e)) ∙ ap (λ (n : ℕ). strung n placed) none

  -- of n blocks that are not last, and the last
  pub placed_is : (n : ℕ) → n + 1 ≡ blocks_of (length s)
      → strung n (block o) ++ added (drop (16 * n) s) (block o n) ≡ strung (blocks_of (length s)) placed
  unfolding strung
  placed_is n count =
      let pick : (i : ℕ) → Bool → List ℕ = λ i c. cond c (block o i) (added (block s i) (block o i)) in
      let first : (i : ℕ) → i < n → block o i ≡ placed i = λ i l. ap (pick i) (sym (lt-ltb (suc i) (blocks_of (length s)) (omega arith))) in
      let last =
      ap (λ (x : List ℕ). added x (block o n)) (take_last s n count)
      ∙ ap (pick n) (sym (le-ltb (suc n) (blocks_of (length s)) (omega arith))) in
      (λ j. strung_ext n (block o) placed first j ++ last j) ∙ ap (λ (k : ℕ). strung k placed) (sym (add-one n) ∙ count)

  -- by the numbers that they have in the text
  pub rest_placed : (m first : ℕ) → 16 * first + length s ≡ m
      → strung (blocks_of (length s)) placed
      ≡ strung (blocks_of (length s)) (λ i. cond (inner m (first + i)) (block o i) (added (block s i) (block o i)))
  rest_placed m first end =
      strung_ext (blocks_of (length s)) placed (λ i. cond (inner m (first + i)) (block o i) (added (block s i) (block o i)))
      (λ i h. ap (λ (c : Bool). cond c (block o i) (added (block s i) (block o i))) (same i h (ℕ_discrete (suc i) (blocks_of (length s)))))
    where
      same : (i : ℕ) → i < blocks_of (length s) → Dec (suc i ≡ blocks_of (length s)) → inner (length s) i ≡ inner m (first + i)
      same i h (yes e) = le-ltb (suc i) (blocks_of (length s)) (omega arith) ∙ sym (le-ltb (suc (first + i)) (blocks_of m) (omega arith))
      same i h (no d) = lt-ltb (suc i) (blocks_of (length s)) (omega arith) ∙ sym (lt-ltb (suc (first + i)) (blocks_of m) (omega arith))

-- the rest s of a text of m bytes, from block `first` on
module _ (m first : ℕ) (s : List ℕ) where
  module _ (end : 16 * first + length s ≡ m) where
    pub whole_block : (i : ℕ) → inner m (first + i) ≡ true → length (block s i) ≡ 16
    whole_block i t = block_long s i (omega (arith, ltb-true (suc (first + i)) (blocks_of m) t))

    -- n blocks that are not last, and the last
    module _ (n : ℕ) (count : n + 1 ≡ blocks_of (length s)) where
      inner-is : (i : ℕ) → i < n → inner m (first + i) ≡ true
      inner-is i l = lt-ltb (suc (first + i)) (blocks_of m) (omega arith)

      last-is : inner m (first + n) ≡ false
      last-is = le-ltb (suc (first + n)) (blocks_of m) (omega arith)

      pub text_tweaks_put : (nonce : List ℕ) → length nonce ≤ 15 → (buffer : List ℕ)
          → paste (strung n (λ i. text_tweak nonce (first + i)) ++ drop (16 * n) buffer) (16 * n) (special_tweak nonce (last_text_mark m)) 16
          ≡ put_first (blocks_of (length s)) (λ i. text_tweak_of nonce m (first + i)) buffer
      text_tweaks_put nonce short buffer =
          let special = special_tweak nonce (last_text_mark m) in
          let g : ℕ → List ℕ = λ i. text_tweak_of nonce m (first + i) in
          let pick : (i : ℕ) → Bool → List ℕ = λ i c. cond c (text_tweak nonce (first + i)) special in
          ap (λ (x : List ℕ). paste x (16 * n) special 16)
          (put_is n (λ i. text_tweak nonce (first + i)) g buffer (λ i l. ap (pick i) (sym (inner-is i l))))
          ∙ put_more n g buffer (λ i l. text_tweak_long nonce m (first + i) short) special (length_tweak nonce (last_text_mark m) 0 (omega arith))
          (ap (pick n) (sym last-is))
          ∙ ap (λ (k : ℕ). put_first k g buffer) count

      pub text_blocks_put : (buffer : List ℕ)
          → paste (take (16 * n) s ++ drop (length (take (16 * n) s)) buffer) (16 * n) (length_block (length s - 16 * n)) 16
          ≡ put_first (blocks_of (length s)) (λ i. text_block_of m (first + i) (block s i)) buffer
      unfolding length_block
      text_blocks_put buffer =
          let g : ℕ → List ℕ = λ i. text_block_of m (first + i) (block s i) in
          let pick : (i : ℕ) → Bool → List ℕ = λ i c. cond c (block s i) (length_block (length (block s i))) in
          let r : length s - 16 * n ≡ length (block s n) = sym (length-drop (16 * n) s) ∙ ap length (take_last s n count) in
          ap (λ (x : List ℕ). paste x (16 * n) (length_block (length s - 16 * n)) 16)
          (put_copied n s g buffer (omega arith) (λ i l. ap (pick i) (sym (inner-is i l))))
          ∙ put_more n g buffer (λ i l. text_block_long m (first + i) (block s i) (whole_block i)) (length_block (length s - 16 * n)) refl
          (ap length_block r ∙ ap (pick n) (sym last-is))
          ∙ ap (λ (k : ℕ). put_first k g buffer) count
