-- The tweaks and the blocks of the header's calls, as they are put.
use mathlib.Core.Path.{◌≡◌, sym, ap, ◌∙◌}
use mathlib.Core.Bool.{Bool, true, false, cond}
use mathlib.Core.List.{List, ◌++◌}
use Prim.Native.Nat.{ℕ, suc, ◌+◌, ◌*◌, ◌≤◌, ◌<◌}
use native.Mathlib.Omega.{arith}
use borrow.Author.Tests.{lt-ltb, le-ltb}
use lib.ListN.{length, take, drop, length-drop}
use lib.Seq.{paste, take_all}
use Rattle.blockwise.specs.Blocks.{block, strung}
use Rattle.blockwise.proofs.Each.{block_long}
use Rattle.calls.specs.Calls.{filled, header_call}
use Rattle.calls.specs.Tweak.{header_tweak, special_tweak, blocks_of, inner, last_header_mark}
use Rattle.calls.proofs.ByBlocks.{length_filled}
use Rattle.calls.proofs.Tweaks.{length_tweak}
use Rattle.sums.proofs.Sums.{filled_whole}
use Rattle.batch.specs.Batch.{put_first}
use Rattle.batch.proofs.Put.{put_none, put_is, put_copied, put_more}

module _ (nonce h : List ℕ) where
  abbrev pub tweak_at : ℕ → List ℕ
  tweak_at i = (header_call nonce h i).tweak

  abbrev pub block_at : ℕ → List ℕ
  block_at i = (header_call nonce h i).block

  pub tweak_long : length nonce ≤ 15 → (i : ℕ) → length (tweak_at i) ≡ 16
  unfolding header_call
  tweak_long short i = either (inner (length h) i)
    where
      either : (c : Bool) → length (cond c (header_tweak nonce i) (special_tweak nonce (last_header_mark (length h)))) ≡ 16
      either true = length_tweak nonce 0x80 i (omega arith)
      either false = length_tweak nonce (last_header_mark (length h)) 0 (omega arith)

  pub block_whole : (i : ℕ) → length (block_at i) ≡ 16
  unfolding header_call
  block_whole i = length_filled 0x80 (block h i)

  -- of an empty header, nothing
  pub header_none : length h ≡ 0 → (g : ℕ → List ℕ) (buffer : List ℕ) → buffer ≡ put_first (blocks_of (length h)) g buffer
  header_none z g buffer = put_none g buffer ∙ ap (λ (a : ℕ). put_first (blocks_of a) g buffer) (sym z)

  -- of another, the n blocks that are not last, then the last
  module _ (n : ℕ) (count : n + 1 ≡ blocks_of (length h)) (buffer : List ℕ) where
    pub header_tweaks_put : length nonce ≤ 15 → (first : ℕ) → first ≡ 0
        → paste (strung n (λ i. header_tweak nonce (first + i)) ++ drop (16 * n) buffer) (16 * n) (special_tweak nonce (last_header_mark (length h))) 16
        ≡ put_first (blocks_of (length h)) tweak_at buffer
    unfolding header_call
    header_tweaks_put short first z =
        let special = special_tweak nonce (last_header_mark (length h)) in
        let number : (i : ℕ) → first + i ≡ i = λ i. omega arith in
        let before : (i : ℕ) → i < n → header_tweak nonce (first + i) ≡ tweak_at i =
        λ i l j. cond (sym (lt-ltb (suc i) (blocks_of (length h)) (omega arith)) j) (header_tweak nonce (number i j)) special in
        let last : special ≡ tweak_at n = ap (λ (t : Bool). cond t (header_tweak nonce n) special) (sym (le-ltb (suc n) (blocks_of (length h)) (omega arith))) in
        ap (λ (x : List ℕ). paste x (16 * n) special 16) (put_is n (λ i. header_tweak nonce (first + i)) tweak_at buffer before)
        ∙ put_more n tweak_at buffer (λ i l. tweak_long short i) special (length_tweak nonce (last_header_mark (length h)) 0 (omega arith)) last
        ∙ ap (λ (m : ℕ). put_first m tweak_at buffer) count

    pub header-blocks-put :
        paste (take (16 * n) h ++ drop (length (take (16 * n) h)) buffer) (16 * n) (filled 0x80 (drop (16 * n) h)) 16
        ≡ put_first (blocks_of (length h)) block_at buffer
    unfolding header_call
    header-blocks-put =
        let new = filled 0x80 (drop (16 * n) h) in
        let last : new ≡ block_at n = ap (filled 0x80) (sym (take_all 16 (drop (16 * n) h) (rw length-drop (omega arith)))) in
        ap (λ (x : List ℕ). paste x (16 * n) new 16)
        (put_copied n h block_at buffer (omega arith) (λ i l. sym (filled_whole 0x80 (block h i) (block_long h i (omega arith)))))
        ∙ put_more n block_at buffer (λ i l. block_whole i) new (length_filled 0x80 (drop (16 * n) h)) last
        ∙ ap (λ (m : ℕ). put_first m block_at buffer) count
