-- A part of a ciphertext: its blocks, its text, and the sum of that text's blocks.
use mathlib.Core.Path.{◌≡◌, refl, sym, ap, ◌∙◌}
use mathlib.Core.Bool.{true}
use mathlib.Core.Logic.{◌⊎◌, inl, inr}
use mathlib.Core.List.{List, ◌++◌, append-nil}
use Prim.Native.Nat.{ℕ, ◌+◌, ◌-◌, ◌*◌, ◌/◌, ◌%◌, ◌^◌, ◌≤◌, ◌<◌, min}
use native.Mathlib.Decide.{ℕ_discrete}
use native.Mathlib.Nat.{le_of_eq}
use native.Mathlib.Omega.{arith}
use lib.ListN.{length, take, drop, replicate, length-drop, drop_of_length-le, length-replicate}
use lib.Seq.{take_all, take-length, length-take-le}
use Rattle.calls.specs.Calls.{filled, sum_of, checksum}
use Rattle.calls.specs.Pieces.{piece, through}
use Rattle.calls.specs.Tweak.{blocks_of, inner}
use Rattle.calls.proofs.ByBlocks.{inner_long, length_piece, length_through_part}
use Rattle.calls.proofs.Strung.{block_short}
use Rattle.suites.specs.declared.suite.Suite.{Suite}
use Rattle.blockwise.specs.Blocks.{block, strung}
use Rattle.blockwise.proofs.Each.{block_long, block_later, block_taken, block_of_strung}
use Rattle.sums.specs.Sums.{sum_from}
use Rattle.text_blocks.specs.Text.{Part}
use Rattle.text_blocks.specs.Under.{enciphers, deciphers}
use Rattle.text_blocks.proofs.Chunks.{enciphers_blockwise, deciphers_blockwise}
use Rattle.sums.proofs.Sums.{sum_ext, sum_add, sum_of_lem}
use Rattle.sealing.specs.Passes.{text_of, text_part, text_sum}

-- the part of c that was copied over all of w
pub copied_is : (at : ℕ) (c w : List ℕ) → at + length w ≤ length c
    → take (at + length w - at) (drop at c) ++ drop (length (take (at + length w - at) (drop at c))) w ≡ take (length w) (drop at c)
copied_is at c w h =
    let n : at + length w - at ≡ length w = omega arith in
    let long : length (take (length w) (drop at c)) ≡ length w = length-take-le (length w) (drop at c) (rw length-drop (omega arith)) in
    ap (λ (k : ℕ). take k (drop at c) ++ drop (length (take k (drop at c))) w) n
    ∙ ap (λ (r : List ℕ). take (length w) (drop at c) ++ r) (drop_of_length-le w {i = length (take (length w) (drop at c))} (le_of_eq (sym long)))
    ∙ append-nil (take (length w) (drop at c))

-- a part's blocks are the whole's
part_block : (c : List ℕ) (first n : ℕ) → Part (length c) first n → (i : ℕ) → i < blocks_of n → block (take n (drop (16 * first) c)) i ≡ block c (first + i)
part_block c first n p i h = by p.whole ∙ block_later first i c
  where
    rest : List ℕ
    rest = drop (16 * first) c

    by : (16 * first + n ≡ length c) ⊎ (n % 16 ≡ 0) → block (take n rest) i ≡ block rest i
    by (inl e) = ap (λ (x : List ℕ). block x i) (take_all n rest (rw length-drop (omega arith)))
    by (inr w) =
        let k : n ≡ 16 * (n / 16) = omega arith in
        ap (λ (j : ℕ). block (take j rest) i) k ∙ block_taken (n / 16) rest (rw length-drop (omega (arith, p.within))) i (omega arith)

module _ (s : Suite) (key nonce : List ℕ) (short : length nonce ≤ 15) (c : List ℕ) (first n : ℕ) (p : Part (length c) first n) where
  -- the text of a part
  unfoldable pub text : List ℕ
  text = text_part s key nonce c first n

  whole_block : (i : ℕ) → i < blocks_of n → inner (length c) (first + i) ≡ true → length (block (take n (drop (16 * first) c)) i) ≡ 16
  whole_block i h t = ap length (part_block c first n p i h) ∙ inner_long c (first + i) t

  part-long : length (take n (drop (16 * first) c)) ≡ n
  part-long = length-take-le n (drop (16 * first) c) (rw length-drop (omega (arith, p.within)))

  pub text_long : length text ≡ n
  unfolding text
  text_long =
      length_through_part (deciphers s key) (enciphers s key) (deciphers_blockwise s key) (enciphers_blockwise s key) nonce short
      (length c) first (take n (drop (16 * first) c)) (λ i h. whole_block i (rw part-long at h))
      ∙ part-long

  text-block : (i : ℕ) → i < blocks_of n → block text i ≡ piece (deciphers s key) (enciphers s key) nonce (length c) (first + i) (block c (first + i))
  unfolding text through
  text-block i h =
      ap (λ (k : ℕ). block (strung (blocks_of k) g) i) part-long
      ∙ block_of_strung (blocks_of n) g (λ j l. long j (omega arith) ∙ block_long P j (omega (arith, part-long))) (λ j l. rw (long j l) (block_short P j)) i h
      ∙ ap (piece (deciphers s key) (enciphers s key) nonce (length c) (first + i)) (part_block c first n p i h)
    where
      P : List ℕ
      P = take n (drop (16 * first) c)

      g : ℕ → List ℕ
      g j = piece (deciphers s key) (enciphers s key) nonce (length c) (first + j) (block P j)

      long : (j : ℕ) → j < blocks_of n → length (g j) ≡ length (block P j)
      long j l =
          length_piece (deciphers s key) (enciphers s key) (deciphers_blockwise s key) (enciphers_blockwise s key) nonce short
          (length c) (first + j) (block P j) (whole_block j l) (block_short P j)

  -- the blocks of a part's text added to the sum of those before them
  pub window_sum : sum_from (text_sum s key nonce c first) (blocks_of (length text)) (λ i. filled 0x00 (block text i)) ≡ text_sum s key nonce c (first + blocks_of n)
  unfolding text_sum
  window_sum =
      let G : ℕ → List ℕ = λ i. filled 0x00 (piece (deciphers s key) (enciphers s key) nonce (length c) i (block c i)) in
      ap (λ (k : ℕ). sum_from (sum_of first G) (blocks_of k) (λ i. filled 0x00 (block text i))) text_long
      ∙ sum_ext (sum_of first G) (blocks_of n) (λ i. filled 0x00 (block text i)) (λ i. G (first + i)) (λ i h. ap (filled 0x00) (text-block i h))
      ∙ ap (λ (x : List ℕ). sum_from x (blocks_of n) (λ i. G (first + i))) (sym (sum_of_lem first G))
      ∙ sym (sum_add (replicate 16 0) first (blocks_of n) G)
      ∙ sum_of_lem (first + blocks_of n) G

text_whole : (s : Suite) (key nonce : List ℕ) (short : length nonce ≤ 15) (c : List ℕ) (p : Part (length c) 0 (length c))
    → text s key nonce short c 0 (length c) p ≡ text_of s key nonce c
unfolding text
text_whole s key nonce short c p = ap (through (deciphers s key) (enciphers s key) nonce (length c) 0) (take-length c)

-- at most w bytes of what is left, w being whole blocks
pub part_of_rest : (m first w : ℕ) → 16 * first ≤ m → m ≤ 2 ^ 24 → w % 16 ≡ 0 → Part m first (min (m - 16 * first) w)
part_of_rest m first w h small whole = record { small = small; within = omega arith; whole = either (ℕ_discrete (min (m - 16 * first) w) (m - 16 * first)) }
  where
    either : Dec (min (m - 16 * first) w ≡ m - 16 * first) → (16 * first + min (m - 16 * first) w ≡ m) ⊎ (min (m - 16 * first) w % 16 ≡ 0)
    either (yes e) = inl (omega arith)
    either (no d) =
        let all : min (m - 16 * first) w ≡ w = omega arith in
        inr (ap (λ (k : ℕ). k % 16) all ∙ whole)

pub zeros_front : (n w : ℕ) → n ≤ w → length (take {A = ℕ} n (replicate w 0)) ≡ n
zeros_front n w h = length-take-le n (replicate w 0) (rw length-replicate h)

-- nothing is added yet, and everything is
module _ (s : Suite) (key nonce c : List ℕ) where
  pub sum_none : replicate 16 0 ≡ text_sum s key nonce c 0
  unfolding text_sum sum_of
  sum_none = refl

  pub sum_all : length nonce ≤ 15 → length c ≤ 2 ^ 24 → text_sum s key nonce c (blocks_of (length c)) ≡ checksum (text_of s key nonce c)
  unfolding checksum
  sum_all short small =
      let m = length c in
      let p : Part m 0 m = record { small = small; within = omega arith; whole = inl (omega arith) } in
      let whole = text_whole s key nonce short c p in
      let none : 0 + blocks_of m ≡ blocks_of m = omega arith in
      sym (ap (text_sum s key nonce c) none)
      ∙ sym (window_sum s key nonce short c 0 m p)
      ∙ (λ j. sum_from (sym sum_none j) (blocks_of (length (whole j))) (λ i. filled 0x00 (block (whole j) i)))
      ∙ sum_of_lem (blocks_of (length (text_of s key nonce c))) (λ i. filled 0x00 (block (text_of s key nonce c) i))
