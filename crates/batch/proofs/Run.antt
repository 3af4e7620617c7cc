-- A sealing's calls, one behind the other: the header's, those of the text's last blocks, and the tag's; and what their run gives.
use mathlib.Core.Path.{◌≡◌, refl, sym, ap, ◌∙◌}
use mathlib.Core.Bool.{Bool, true, false, cond}
use mathlib.Core.List.{List, [], ◌++◌, append_assoc, append-nil}
use Prim.Native.Nat.{ℕ, ◌+◌, ◌-◌, ◌*◌, ◌/◌, ◌≤◌, ◌<◌}
use native.Mathlib.Nat.{le_of_eq}
use native.Mathlib.Omega.{arith}
use lib.ListN.{length, take, drop, replicate, length-append, length-drop}
use lib.Seq.{paste, take_at, drop_at, drop-drop, length-take-le}
use Rattle.bits.specs.Bytes.{added}
use Rattle.bits.proofs.Added.{added_zeros}
use Rattle.bits.proofs.Lists.{part_rest}
use Rattle.blockwise.specs.Blocks.{block, strung, each_block}
use Rattle.blockwise.proofs.Each.{Blockwise, block_append, block_later, block_taken, block_of_strung, block_of_each, length_of_each, strung_ext, strung_whole}
use Rattle.calls.specs.Calls.{header_call, length_block, sum_of}
use Rattle.calls.specs.Pieces.{piece, through, header_sum, tag_from}
use Rattle.calls.specs.Tweak.{text_tweak, special_tweak, blocks_of, inner, last_text_mark, tag_mark}
use Rattle.calls.proofs.Tweaks.{length_tweak}
use Rattle.suites.specs.declared.suite.Suite.{Suite}
use Rattle.sums.specs.Sums.{sum_from}
use Rattle.sums.proofs.Sums.{part_none, sum_ext, sum_of_lem}
use Rattle.text_blocks.specs.Under.{enciphers}
use Rattle.text_blocks.proofs.Chunks.{enciphers_blockwise}
use Rattle.batch.specs.Batch.{put_first, text_tweak_of, text_block_of}
use Rattle.batch.proofs.Put.{pasted_behind, put_front, put_rest}
use Rattle.batch.proofs.Headers.{tweak_at, block_at, tweak_long, block_whole}
use Rattle.batch.proofs.Texts.{text_tweak_long, text_block_long, whole_block}

-- k blocks, n behind them, and then b
module _ (k n : ℕ) (g f : ℕ → List ℕ) (b : List ℕ) (lg : (i : ℕ) → i < k → length (g i) ≡ 16) (lf : (i : ℕ) → i < n → length (f i) ≡ 16)
    (lb : length b ≡ 16) where
  both_long : length (strung k g ++ strung n f) ≡ 16 * k + 16 * n
  both_long = length-append (strung k g) (strung n f) ∙ omega (arith, strung_whole k g lg, strung_whole n f lf)

  -- they are put so: x, of `size` bytes, has the k, up to `at`, y has the n, where x went on, up to `end`
  pub in_turn : (at end : ℕ) → at ≡ 16 * k → end ≡ at + 16 * n → (size : ℕ) (buffer x y : List ℕ) → size ≡ length x
      → x ≡ put_first k g buffer → y ≡ put_first n f (take (size - at) (drop at x))
      → paste (take at x ++ (y ++ drop (size - at) (drop at x))) end b 16 ≡ strung k g ++ strung n f ++ b ++ drop (16 * (k + n + 1)) buffer
  unfolding put_first
  in_turn at end is_at is-end size buffer x y all_of ex ey =
      let rest = drop (16 * n) (drop (16 * k) buffer) in
      let front : take at x ≡ strung k g = (λ j. take (is_at j) (ex j)) ∙ put_front k g buffer lg in
      let tail : drop at x ≡ drop (16 * k) buffer = (λ j. drop (is_at j) (ex j)) ∙ put_rest k g buffer lg in
      let second : y ≡ strung n f ++ rest = ey ∙ ap (put_first n f) (ap (λ (j : ℕ). take (j - at) (drop at x)) all_of ∙ part_rest at x ∙ tail) in
      let none : drop (size - at) (drop at x) ≡ [] = ap (λ (j : ℕ). drop (j - at) (drop at x)) all_of ∙ part_none at x in
      let place : end ≡ 16 * k + 16 * n = omega arith in
      let all : 16 * k + 16 * n + 16 ≡ 16 * (k + n + 1) = omega arith in
      let behind : drop 16 rest ≡ drop (16 * (k + n + 1)) buffer =
      ap (drop 16) (drop-drop (16 * n) (16 * k) buffer) ∙ drop-drop 16 (16 * k + 16 * n) buffer ∙ ap (λ (j : ℕ). drop j buffer) all in
      (λ j. paste (front j ++ (second j ++ none j)) (place j) b 16)
      ∙ ap (λ (z : List ℕ). paste z (16 * k + 16 * n) b 16)
      (ap (λ (z : List ℕ). strung k g ++ z) (append-nil (strung n f ++ rest)) ∙ sym (append_assoc (strung k g) (strung n f) rest))
      ∙ pasted_behind (strung k g ++ strung n f) rest b (16 * k + 16 * n) both_long lb
      ∙ ap (λ (z : List ℕ). strung k g ++ strung n f ++ b ++ z) behind

  -- each of them
  module _ (rest x : List ℕ) (is : x ≡ strung k g ++ strung n f ++ b ++ rest) where
    front : x ≡ strung k g ++ (strung n f ++ (b ++ rest))
    front = is ∙ simp append_assoc

    first_block : (i : ℕ) → i < k → block x i ≡ g i
    first_block i l =
        ap (λ (z : List ℕ). block z i) front
        ∙ block_append (strung k g) (strung n f ++ (b ++ rest)) i (omega (arith, strung_whole k g lg))
        ∙ block_of_strung k g (λ j m. lg j (omega arith)) (λ j m. le_of_eq (lg j m)) i l

    next-block : (i : ℕ) → i < n → block x (k + i) ≡ f i
    next-block i l =
        sym (block_later k i x)
        ∙ ap (λ (z : List ℕ). block z i) (ap (drop (16 * k)) front ∙ drop_at (strung k g) (strung n f ++ (b ++ rest)) (16 * k) (strung_whole k g lg))
        ∙ block_append (strung n f) (b ++ rest) i (omega (arith, strung_whole n f lf))
        ∙ block_of_strung n f (λ j m. lf j (omega arith)) (λ j m. le_of_eq (lf j m)) i l

    last_block : block x (k + n) ≡ b
    last_block =
        let at : 16 * (k + n) ≡ 16 * k + 16 * n = omega arith in
        (λ j. take 16 (drop (at j) ((is ∙ append_assoc (strung k g ++ strung n f) b rest) j)))
        ∙ ap (take 16) (drop_at (strung k g ++ strung n f) (b ++ rest) (16 * k + 16 * n) both_long)
        ∙ take_at b rest 16 lb

-- blocks by their number, added up
sum_blocks : (k : ℕ) (x : List ℕ) (g : ℕ → List ℕ) → 16 * k ≤ length x → ((i : ℕ) → i < k → block x i ≡ g i)
    → sum_from (replicate 16 0) (length (take (16 * k) x) / 16) (block (take (16 * k) x)) ≡ sum_of k g
sum_blocks k x g room e =
    let t = take (16 * k) x in
    let count : length t / 16 ≡ k = omega (arith, length-take-le (16 * k) x room) in
    ap (λ (n : ℕ). sum_from (replicate 16 0) n (block t)) count
    ∙ sum_ext (replicate 16 0) k (block t) g (λ i l. block_taken k x room i l ∙ e i l)
    ∙ sum_of_lem k g

-- a call under its tweak, by cases: what `piece` says
piece_is : (e : List ℕ → List ℕ → List ℕ) (nonce : List ℕ) (m i : ℕ) (b : List ℕ)
    → cond (inner m i) (e (text_tweak_of nonce m i) (text_block_of m i b)) (added b (e (text_tweak_of nonce m i) (text_block_of m i b))) ≡ piece e e nonce m i b
unfolding piece
piece_is e nonce m i b = either (inner m i)
  where
    call : Bool → List ℕ
    call c = e (cond c (text_tweak nonce i) (special_tweak nonce (last_text_mark m))) (cond c b (length_block (length b)))

    either : (c : Bool) → cond c (call c) (added b (call c))
        ≡ cond c (e (text_tweak nonce i) b) (added b (e (special_tweak nonce (last_text_mark m)) (length_block (length b))))
    either true = refl
    either false = refl

-- the rest `text` of a text of m bytes, from block `first` on, its header h and its checksum
module _ (nonce : List ℕ) (short : length nonce ≤ 15) (h check : List ℕ) (whole : length check ≡ 16)
    (m first : ℕ) (text : List ℕ) (end : 16 * first + length text ≡ m) where
  abbrev k : ℕ
  k = blocks_of (length h)

  abbrev n : ℕ
  n = blocks_of (length text)

  -- the calls' tweaks and blocks, by their places
  abbrev header_tweaks : ℕ → List ℕ
  header_tweaks = tweak_at nonce h

  abbrev header_blocks : ℕ → List ℕ
  header_blocks = block_at nonce h

  abbrev text_tweaks : ℕ → List ℕ
  text_tweaks i = text_tweak_of nonce m (first + i)

  abbrev text_blocks : ℕ → List ℕ
  text_blocks i = text_block_of m (first + i) (block text i)

  abbrev tag_tweak : List ℕ
  tag_tweak = special_tweak nonce (tag_mark m)

  header-tweak-long : (i : ℕ) → i < k → length (header_tweaks i) ≡ 16
  header-tweak-long i l = tweak_long nonce h short i

  header-block-long : (i : ℕ) → i < k → length (header_blocks i) ≡ 16
  header-block-long i l = block_whole nonce h i

  next-tweak-long : (i : ℕ) → i < n → length (text_tweaks i) ≡ 16
  next-tweak-long i l = text_tweak_long nonce m (first + i) short

  next-block-long : (i : ℕ) → i < n → length (text_blocks i) ≡ 16
  next-block-long i l = text_block_long m (first + i) (block text i) (whole_block m first text end i)

  tag-tweak-long : length tag_tweak ≡ 16
  tag-tweak-long = length_tweak nonce (tag_mark m) 0 (omega arith)

  -- the places behind the header's calls and behind the text's
  module _ (at-text at_tag : ℕ) (text_there : at-text ≡ 16 * k) (tag-there : at_tag ≡ at-text + 16 * n) where
    pub tweaks_in_turn : (size : ℕ) (buffer x y : List ℕ) → size ≡ length x → x ≡ put_first k header_tweaks buffer
        → y ≡ put_first n text_tweaks (take (size - at-text) (drop at-text x))
        → paste (take at-text x ++ (y ++ drop (size - at-text) (drop at-text x))) at_tag tag_tweak 16
        ≡ strung k header_tweaks ++ strung n text_tweaks ++ tag_tweak ++ drop (16 * (k + n + 1)) buffer
    tweaks_in_turn =
        in_turn k n header_tweaks text_tweaks tag_tweak header-tweak-long next-tweak-long tag-tweak-long at-text at_tag text_there tag-there

    pub blocks_in_turn : (size : ℕ) (buffer x y : List ℕ) → size ≡ length x → x ≡ put_first k header_blocks buffer
        → y ≡ put_first n text_blocks (take (size - at-text) (drop at-text x))
        → paste (take at-text x ++ (y ++ drop (size - at-text) (drop at-text x))) at_tag check 16
        ≡ strung k header_blocks ++ strung n text_blocks ++ check ++ drop (16 * (k + n + 1)) buffer
    blocks_in_turn = in_turn k n header_blocks text_blocks check header-block-long next-block-long whole at-text at_tag text_there tag-there

    -- of the tweaks x and the blocks y, the outcomes o
    module _ (s : Suite) (key : List ℕ) (x y o behind-x behind-y : List ℕ)
        (tweaks : x ≡ strung k header_tweaks ++ strung n text_tweaks ++ tag_tweak ++ behind-x)
        (blocks : y ≡ strung k header_blocks ++ strung n text_blocks ++ check ++ behind-y)
        (run : o ≡ each_block (enciphers s key) (take (at_tag + 16) x) y)
        (room-x : at_tag + 16 ≤ length x) (room-y : at_tag + 16 ≤ length y) where
      abbrev e : List ℕ → List ℕ → List ℕ
      e = enciphers s key

      -- the text's outcomes
      abbrev part : List ℕ
      part = take (at_tag - at-text) (drop at-text o)

      outcomes-long : length o ≡ length y
      outcomes-long = ap length run ∙ length_of_each (enciphers s key) (enciphers_blockwise s key) (take (at_tag + 16) x) y

      outcome : (i : ℕ) → i < k + n + 1 → block o i ≡ e (block x i) (block y i)
      outcome i h =
          let all : at_tag + 16 ≡ 16 * (k + n + 1) = omega arith in
          ap (λ (z : List ℕ). block z i) (run ∙ ap (λ (j : ℕ). each_block (enciphers s key) (take j x) y) all)
          ∙ block_of_each (enciphers s key) (enciphers_blockwise s key) (take (16 * (k + n + 1)) x) y i (omega (arith, length-take-le (16 * (k + n + 1)) x (omega arith)))
          ∙ ap (λ (z : List ℕ). e z (block y i)) (block_taken (k + n + 1) x (omega arith) i h)

      first-outcome : (i : ℕ) → i < k → block o i ≡ e (header_tweaks i) (header_blocks i)
      first-outcome i h =
          outcome i (omega arith)
          ∙ (λ j. e
          (first_block k n header_tweaks text_tweaks tag_tweak header-tweak-long next-tweak-long tag-tweak-long behind-x x tweaks i h j)
          (first_block k n header_blocks text_blocks check header-block-long next-block-long whole behind-y y blocks i h j))

      next-outcome : (i : ℕ) → i < n → block o (k + i) ≡ e (text_tweaks i) (text_blocks i)
      next-outcome i h =
          outcome (k + i) (omega arith)
          ∙ (λ j. e
          (next-block k n header_tweaks text_tweaks tag_tweak header-tweak-long next-tweak-long tag-tweak-long behind-x x tweaks i h j)
          (next-block k n header_blocks text_blocks check header-block-long next-block-long whole behind-y y blocks i h j))

      -- "all enciphered header blocks", added up
      sum_is : sum_from (replicate 16 0) (length (take at-text o) / 16) (block (take at-text o)) ≡ header_sum e nonce h
      unfolding header_sum header_call
      sum_is =
          ap (λ (j : ℕ). sum_from (replicate 16 0) (length (take j o) / 16) (block (take j o))) text_there
          ∙ sum_blocks k o (λ i. e (header_tweaks i) (header_blocks i)) (omega (arith, outcomes-long)) first-outcome

      part_block : (i : ℕ) → i < n → block part i ≡ e (text_tweaks i) (text_blocks i)
      part_block i h =
          let long : at_tag - at-text ≡ 16 * n = omega arith in
          (λ j. block (take (long j) (drop (text_there j) o)) i)
          ∙ block_taken n (drop (16 * k) o) (rw length-drop (omega (arith, outcomes-long))) i h
          ∙ block_later k i o
          ∙ next-outcome i h

      text-is : strung n (λ i. cond (inner m (first + i)) (block part i) (added (block text i) (block part i))) ≡ through e e nonce m first text
      unfolding through
      text-is =
          strung_ext n (λ i. cond (inner m (first + i)) (block part i) (added (block text i) (block part i)))
          (λ i. piece e e nonce m (first + i) (block text i))
          (λ i h.
          ap (λ (z : List ℕ). cond (inner m (first + i)) z (added (block text i) z)) (part_block i h) ∙ piece_is e nonce m (first + i) (block text i))

      -- the tag's
      tag-outcome : take 16 (drop at_tag o) ≡ e tag_tweak check
      tag-outcome =
          let at : at_tag ≡ 16 * (k + n) = omega arith in
          ap (λ (j : ℕ). take 16 (drop j o)) at
          ∙ outcome (k + n) (omega arith)
          ∙ (λ j. e
          (last_block k n header_tweaks text_tweaks tag_tweak header-tweak-long next-tweak-long tag-tweak-long behind-x x tweaks j)
          (last_block k n header_blocks text_blocks check header-block-long next-block-long whole behind-y y blocks j))

      -- the tag, and the text in its place
      pub run_is :
          (added (take 16 (drop at_tag o)) (sum_from (replicate 16 0) (length (take at-text o) / 16) (block (take at-text o)))
          ≡ tag_from e nonce m check (header_sum e nonce h))
          × (strung n (λ i. cond (inner m (first + i)) (block part i) (added (block text i) (block part i))) ≡ through e e nonce m first text)
      unfolding tag_from
      run_is = ((λ j. added (tag-outcome j) (sum_is j)), text-is)

-- the header's sum, added after a run without a header
pub tag_later : (e : List ℕ → List ℕ → List ℕ) → Blockwise e → (nonce : List ℕ) → length nonce ≤ 15 → (m : ℕ) (check sum : List ℕ) → length check ≡ 16
    → added (tag_from e nonce m check (header_sum e nonce [])) sum ≡ tag_from e nonce m check sum
unfolding tag_from header_sum sum_of
tag_later e k nonce short m check sum whole =
    let long = k.long (special_tweak nonce (tag_mark m)) check (length_tweak nonce (tag_mark m) 0 (omega arith)) whole in
    ap (λ (x : List ℕ). added x sum) (added_zeros (e (special_tweak nonce (tag_mark m)) check) 16 (le_of_eq long))
