-- A part of a text, as the code goes through it: whole blocks before the last, and the last.
use mathlib.Core.Path.{◌≡◌, sym, ap, ◌∙◌}
use mathlib.Core.Bool.{Bool, false, cond}
use mathlib.Core.Logic.{◌⊎◌, inl, inr}
use mathlib.Core.List.{List, ◌++◌, append-nil}
use Prim.Native.Nat.{ℕ, suc, ◌+◌, ◌-◌, ◌*◌, ◌/◌, ◌%◌, ◌≤◌, ◌<◌}
use native.Mathlib.Nat.{zero-add, le_of_eq}
use native.Mathlib.Omega.{arith}
use borrow.Author.Tests.{lt-ltb, le-ltb}
use lib.ListN.{length, take, drop, length-drop, drop_of_length-le}
use lib.Seq.{take_all, length-take-le}
use Rattle.bits.specs.Bytes.{added}
use Rattle.calls.specs.Calls.{length_block}
use Rattle.calls.specs.Pieces.{piece, through}
use Rattle.calls.specs.Tweak.{text_tweak, special_tweak, blocks_of, inner, last_text_mark}
use Rattle.blockwise.specs.Blocks.{block, strung}
use Rattle.blockwise.proofs.Each.{block_later, block_taken, strung_add, strung_ext}
use Rattle.suites.specs.declared.suite.Suite.{Suite}
use Rattle.text_blocks.specs.Under.{enciphers, last_bytes, pad_of}

-- what does not reach the text's end is whole blocks
pub before_whole : (m end n : ℕ) → (end ≡ m) ⊎ (n % 16 ≡ 0) → end < m → n % 16 ≡ 0
before_whole m end n (inl e) h = absurd (omega arith)
before_whole m end n (inr w) h = w

-- the last block of what reaches it
pub last_there : (m first n : ℕ) → 16 * first + n ≡ m → 0 < n → last_bytes m ≡ n - 16 * ((n - 1) / 16)
last_there m first n e some = omega arith

-- what is added to it, made of its length
pub pad_is : (s : Suite) (key nonce : List ℕ) (m r : ℕ) {pad : List ℕ} → pad ≡ enciphers s key (special_tweak nonce (last_text_mark m)) (length_block r)
    → r ≡ last_bytes m → pad ≡ pad_of s key nonce m
pad_is s key nonce m r e l = e ∙ ap (λ (n : ℕ). enciphers s key (special_tweak nonce (last_text_mark m)) (length_block n)) l

-- the blocks of a front of k whole blocks
pub front_blocks : (g : ℕ → List ℕ → List ℕ) (s : List ℕ) (k : ℕ) → 16 * k ≤ length s
    → strung (length (take (16 * k) s) / 16) (λ i. g i (block (take (16 * k) s) i)) ++ drop (16 * (length (take (16 * k) s) / 16)) (take (16 * k) s)
    ≡ strung k (λ i. g i (block s i))
front_blocks g s k h =
    let t = take (16 * k) s in
    let l : length t ≡ 16 * k = length-take-le (16 * k) s h in
    let n : length t / 16 ≡ k = omega arith in
    ap (λ (j : ℕ). strung j (λ i. g i (block t i)) ++ drop (16 * j) t) n
    ∙ (λ j.
    strung_ext k (λ i. g i (block t i)) (λ i. g i (block s i)) (λ i b. ap (g i) (block_taken k s h i b)) j
    ++ drop_of_length-le t {i = 16 * k} (le_of_eq l) j)
    ∙ append-nil (strung k (λ i. g i (block s i)))

module _ (f e : List ℕ → List ℕ → List ℕ) (nonce : List ℕ) (m first : ℕ) (s : List ℕ) where
  -- block i of s, as one that is not last and as the last
  under : ℕ → List ℕ
  under i = f (text_tweak nonce (first + i)) (block s i)

  abbrev lastly : List ℕ → ℕ → List ℕ
  lastly b n = added b (e (special_tweak nonce (last_text_mark m)) (length_block n))

  abbrev pieces : ℕ → List ℕ
  pieces i = piece f e nonce m (first + i) (block s i)

  piece-inner : (i : ℕ) → 16 * (first + i) + 16 < m → under i ≡ pieces i
  unfolding under piece
  piece-inner i h =
      ap (λ (t : Bool). cond t (f (text_tweak nonce (first + i)) (block s i)) (lastly (block s i) (length (block s i))))
      (sym (lt-ltb (suc (first + i)) (blocks_of m) (omega arith)))

  pub through_before : 16 * first + length s ≤ m - 1 → length s % 16 ≡ 0
      → strung (length s / 16) (λ i. f (text_tweak nonce (first + i)) (block s i)) ++ drop (16 * (length s / 16)) s ≡ through f e nonce m first s
  unfolding through under
  through_before h w =
      let n : length s / 16 ≡ blocks_of (length s) = omega arith in
      (λ j.
      strung_ext (length s / 16) under pieces (λ i b. piece-inner i (omega arith)) j
      ++ drop_of_length-le s {i = 16 * (length s / 16)} (omega arith) j)
      ∙ append-nil (strung (length s / 16) pieces)
      ∙ ap (λ (k : ℕ). strung k pieces) n

  pub through_none : length s ≡ 0 → s ≡ through f e nonce m first s
  unfolding through strung
  through_none l =
      sym (take_all 0 s (le_of_eq l)) ∙ ap (λ (n : ℕ). strung n pieces) none
    where
      none : 0 ≡ blocks_of (length s)
      none = omega arith

  pub through_last : (k : ℕ) → k ≡ (length s - 1) / 16 → 0 < length s → 16 * first + length s ≡ m
      → strung k (λ i. f (text_tweak nonce (first + i)) (block s i)) ++ lastly (drop (16 * k) s) (length s - 16 * k)
      ≡ through f e nonce m first s
  unfolding through strung under piece
  through_last k ek some end =
      let n : suc k ≡ blocks_of (length s) = omega arith in
      let b : drop (16 * k) s ≡ block s k = sym (take_all 16 (drop (16 * k) s) (rw length-drop (omega arith))) in
      let r : length s - 16 * k ≡ length (block s k) = sym (length-drop (16 * k) s) ∙ ap length b in
      let last : false ≡ inner m (first + k) = sym (le-ltb (suc (first + k)) (blocks_of m) (omega arith)) in
      (λ j. strung_ext k under pieces (λ i h. piece-inner i (omega arith)) j ++ lastly (b j) (r j))
      ∙ ap (λ (t : Bool). strung k pieces ++ cond t (f (text_tweak nonce (first + k)) (block s k)) (lastly (block s k) (length (block s k)))) last
      ∙ ap (λ (j : ℕ). strung j pieces) n

-- a part that begins with the text, in two
module _ (f e : List ℕ → List ℕ → List ℕ) (nonce : List ℕ) (m : ℕ) (c : List ℕ) (k : ℕ) (room : 16 * k ≤ length c) where
  pub through_split : through f e nonce m 0 c ≡ through f e nonce m 0 (take (16 * k) c) ++ through f e nonce m k (drop (16 * k) c)
  unfolding through
  through_split =
      let g : ℕ → List ℕ = λ i. piece f e nonce m (0 + i) (block c i) in
      let rest = blocks_of (length (drop (16 * k) c)) in
      let parts : blocks_of (length c) ≡ k + rest = omega (arith, length-drop (16 * k) c) in
      let front : k ≡ blocks_of (length (take (16 * k) c)) = omega (arith, length-take-le (16 * k) c room) in
      ap (λ (n : ℕ). strung n g) parts
      ∙ strung_add k rest g
      ∙ (λ j.
      (strung_ext k g (λ i. piece f e nonce m (0 + i) (block (take (16 * k) c) i)) (λ i h. ap (piece f e nonce m (0 + i)) (sym (block_taken k c room i h)))
      ∙ ap (λ (n : ℕ). strung n (λ i. piece f e nonce m (0 + i) (block (take (16 * k) c) i))) front)
      j
      ++ strung rest (λ i. piece f e nonce m (zero-add (k + i) j) (sym (block_later k i c) j)))
