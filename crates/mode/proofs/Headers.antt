-- The header's blocks, enciphered and added up: a chunk of them, the inner ones, and all.
use mathlib.Core.Path.{◌≡◌, sym, ap, ◌∙◌}
use mathlib.Core.Bool.{cond}
use mathlib.Core.List.{List, ◌++◌}
use Prim.Native.Nat.{ℕ, suc, ◌+◌, ◌-◌, ◌*◌, ◌/◌, ◌≤◌, ◌<◌}
use native.Mathlib.Nat.{le_of_eq}
use native.Mathlib.Omega.{arith}
use borrow.Author.Tests.{lt-ltb, le-ltb}
use lib.ListN.{length, take, drop, replicate, length-append, length-drop}
use lib.Seq.{take_at, take_all, length-take-le}
use Rattle.bits.specs.Bytes.{added}
use Rattle.calls.specs.Calls.{sum_of, filled}
use Rattle.calls.specs.Pieces.{header_sum}
use Rattle.calls.specs.Tweak.{header_tweak, special_tweak, blocks_of, inner, last_header_mark}
use Rattle.calls.proofs.Tweaks.{length_tweak}
use Rattle.suites.specs.declared.suite.Suite.{Suite}
use Rattle.blockwise.specs.Blocks.{block, strung, each_block}
use Rattle.blockwise.proofs.Each.{block_long, block_later, block_append, block_taken, block_of_strung, strung_whole}
use Rattle.sums.specs.Sums.{sum_from}
use Rattle.text_blocks.specs.Text.{Usable}
use Rattle.text_blocks.specs.Under.{enciphers}
use Rattle.text_blocks.proofs.Chunks.{enciphers_blockwise, each_strung}
use Rattle.bits.proofs.Lists.{part_rest}
use Rattle.sums.proofs.Sums.{sum_ext, sum_add, sum_of_lem, filled_whole}

-- the first k blocks, copied over other bytes
block_copied : (k : ℕ) (h z : List ℕ) → 16 * k ≤ length h → (i : ℕ) → i < k → block (take (16 * k) h ++ z) i ≡ block h i
block_copied k h z room i l =
    let long = length-take-le (16 * k) h room in
    block_append (take (16 * k) h) z i (omega arith) ∙ block_taken k h room i l

-- the sum of blocks that are strung
pub sum_strung : (sum : List ℕ) (k : ℕ) (g : ℕ → List ℕ) (rest x : List ℕ) → ((i : ℕ) → i < k → length (g i) ≡ 16) → x ≡ strung k g ++ rest
    → sum_from sum (length (take (16 * k) x) / 16) (block (take (16 * k) x)) ≡ sum_from sum k g
sum_strung sum k g rest x long e =
    let l : length (strung k g) ≡ 16 * k = strung_whole k g long in
    let n : length (strung k g) / 16 ≡ k = omega arith in
    ap (λ (y : List ℕ). sum_from sum (length y / 16) (block y)) (ap (take (16 * k)) e ∙ take_at (strung k g) rest (16 * k) l)
    ∙ ap (λ (j : ℕ). sum_from sum j (block (strung k g))) n
    ∙ sum_ext sum k (block (strung k g)) g (block_of_strung k g (λ i m. long i (omega arith)) (λ i m. le_of_eq (long i m)))

-- a chunk of k blocks from `first` on; y stands behind the tweaks, z behind the copied blocks
module _ (s : Suite) (key : List ℕ) {nonce : List ℕ} (u : Usable s nonce) (first k : ℕ) (h sum : List ℕ) (room : 16 * k ≤ length h) where
  pub chunk_sum : (y z x : List ℕ)
      → x ≡ each_block (enciphers s key) (take (16 * k) (strung k (λ i. header_tweak nonce (first + i)) ++ y)) (take (16 * k) h ++ z)
      → sum_from sum (length (take (16 * k) x) / 16) (block (take (16 * k) x))
      ≡ sum_from sum k (λ i. enciphers s key (header_tweak nonce (first + i)) (block h i))
  chunk_sum y z x e =
      let tw : ℕ → List ℕ = λ i. header_tweak nonce (first + i) in
      let b : List ℕ = take (16 * k) h ++ z in
      let tl : (i : ℕ) → length (tw i) ≡ 16 = λ i. length_tweak nonce 0x80 (first + i) (omega (arith, u.short)) in
      let bl : 16 * k ≤ length b = omega (arith, length-append (take (16 * k) h) z, length-take-le (16 * k) h room) in
      sum_strung sum k (λ i. enciphers s key (tw i) (block b i)) (drop (16 * k) b) x
      (λ i m. (enciphers_blockwise s key).long (tw i) (block b i) (tl i) (block_long b i (omega arith)))
      (e ∙ each_strung k tw tl y b bl (enciphers s key))
      ∙ sum_ext sum k (λ i. enciphers s key (tw i) (block b i)) (λ i. enciphers s key (tw i) (block h i))
      (λ i m. ap (enciphers s key (tw i)) (block_copied k h z room i m))

-- k blocks more, from the place of block n on
pub sum_chunk : (e : ℕ → List ℕ → List ℕ) (h sum : List ℕ) (n k at : ℕ) → at ≡ 16 * n → sum ≡ sum_of n (λ i. e i (block h i))
    → sum_from sum k (λ i. e (n + i) (block (take (length h - at) (drop at h)) i)) ≡ sum_of (n + k) (λ i. e i (block h i))
sum_chunk e h sum n k at place p =
    let g : ℕ → List ℕ = λ i. e i (block h i) in
    (λ j. sum_from ((p ∙ sym (sum_of_lem n g)) j) k (λ i. e (n + i) (same i j))) ∙ sym (sum_add (replicate 16 0) n k g) ∙ sum_of_lem (n + k) g
  where
    same : (i : ℕ) → block (take (length h - at) (drop at h)) i ≡ block h (n + i)
    same i = ap (λ (x : List ℕ). block x i) (part_rest at h ∙ ap (λ (m : ℕ). drop m h) place) ∙ block_later n i h

-- all blocks: none, or the inner ones and the last
module _ (e : List ℕ → List ℕ → List ℕ) (nonce h : List ℕ) where
  abbrev at-header : ℕ → List ℕ
  at-header i = e (cond (inner (length h) i) (header_tweak nonce i) (special_tweak nonce (last_header_mark (length h)))) (filled 0x80 (block h i))

  pub header_none : length h ≡ 0 → replicate 16 0 ≡ header_sum e nonce h
  unfolding header_sum sum_of
  header_none z = ap (λ (a : ℕ). sum_of (blocks_of a) at-header) (sym z)

  module _ (n : ℕ) (count : suc n ≡ blocks_of (length h)) where
    inner-is : (i : ℕ) → i < n → e (header_tweak nonce i) (block h i) ≡ at-header i
    inner-is i l =
        let t = lt-ltb (suc i) (blocks_of (length h)) (omega arith) in
        let b = filled_whole 0x80 (block h i) (block_long h i (omega arith)) in
        λ j. e (cond (sym t j) (header_tweak nonce i) (special_tweak nonce (last_header_mark (length h)))) (sym b j)

    last-is : e (special_tweak nonce (last_header_mark (length h))) (filled 0x80 (drop (16 * n) h)) ≡ at-header n
    last-is =
        let t = le-ltb (suc n) (blocks_of (length h)) (omega arith) in
        let b = take_all 16 (drop (16 * n) h) (rw length-drop (omega arith)) in
        λ j. e (cond (sym t j) (header_tweak nonce n) (special_tweak nonce (last_header_mark (length h)))) (filled 0x80 (sym b j))

    pub header-all :
        added (sum_of n (λ i. e (header_tweak nonce i) (block h i))) (e (special_tweak nonce (last_header_mark (length h))) (filled 0x80 (drop (16 * n) h)))
        ≡ header_sum e nonce h
    unfolding header_sum sum_of
    header-all =
        let f : ℕ → List ℕ = λ i. e (header_tweak nonce i) (block h i) in
        let front : sum_of n f ≡ sum_of n at-header = sym (sum_of_lem n f) ∙ sum_ext (replicate 16 0) n f at-header inner-is ∙ sum_of_lem n at-header in
        (λ j. added (front j) (last-is j)) ∙ ap (λ (m : ℕ). sum_of m at-header) count
