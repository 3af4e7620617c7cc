-- The header's calls, alone or with one more behind them, run at once: the header's sum, and the outcome of the one more.
use mathlib.Core.Path.{◌≡◌, sym, ap, ◌∙◌}
use mathlib.Core.Bool.{Bool, true, false, cond}
use mathlib.Core.List.{List, ◌++◌, append_assoc}
use Prim.Native.Nat.{ℕ, ◌+◌, ◌*◌, ◌/◌, ◌≤◌, ◌<◌}
use native.Mathlib.Numerals.{add-one}
use native.Mathlib.Omega.{arith}
use borrow.Author.Tests.{lt-ltb, le-ltb}
use lib.Dec.{ltb}
use lib.ListN.{length, take, drop, replicate}
use lib.Seq.{paste}
use Rattle.blockwise.specs.Blocks.{block, strung, each_block}
use Rattle.calls.specs.Calls.{header_call}
use Rattle.calls.specs.Pieces.{header_sum}
use Rattle.calls.specs.Tweak.{blocks_of}
use Rattle.suites.specs.declared.suite.Suite.{Suite}
use Rattle.sums.specs.Sums.{sum_from}
use Rattle.sums.proofs.Sums.{sum_ext, sum_of_lem}
use Rattle.text_blocks.specs.Under.{enciphers}
use Rattle.text_blocks.proofs.Chunks.{enciphers_blockwise}
use Rattle.mode.proofs.Headers.{sum_strung}
use Rattle.batch.specs.Batch.{put_first}
use Rattle.batch.proofs.Put.{put_is, put_block, put_more}
use Rattle.batch.proofs.Headers.{tweak_at, block_at, tweak_long, block_whole}
use Rattle.batch.proofs.Enciphered.{put_enciphered}

-- k blocks, then b
abbrev followed : ℕ → (ℕ → List ℕ) → List ℕ → ℕ → List ℕ
followed k g b i = cond (ltb i k) (g i) b

before : (k : ℕ) (g : ℕ → List ℕ) (b : List ℕ) (i : ℕ) → i < k → g i ≡ followed k g b i
before k g b i h = ap (λ (t : Bool). cond t (g i) b) (sym (lt-ltb i k h))

behind : (k : ℕ) (g : ℕ → List ℕ) (b : List ℕ) → b ≡ followed k g b k
behind k g b = ap (λ (t : Bool). cond t (g k) b) (sym (le-ltb k k (omega arith)))

module _ (k : ℕ) (g : ℕ → List ℕ) (long : (i : ℕ) → length (g i) ≡ 16) (b : List ℕ) (l : length b ≡ 16) where
  followed-long : (i : ℕ) → length (followed k g b i) ≡ 16
  followed-long i = either (ltb i k)
    where
      either : (t : Bool) → length (cond t (g i) b) ≡ 16
      either true = long i
      either false = l

  put-behind : (buffer : List ℕ) → paste (put_first k g buffer) (16 * k) b 16 ≡ put_first (k + 1) (followed k g b) buffer
  unfolding put_first
  put-behind buffer =
      ap (λ (x : List ℕ). paste x (16 * k) b 16) (put_is k g (followed k g b) buffer (before k g b))
      ∙ put_more k (followed k g b) buffer (λ i h. followed-long i) b l (behind k g b)

-- the header's calls alone
pub sum_alone : (s : Suite) (key nonce : List ℕ) → length nonce ≤ 15 → (h x y : List ℕ) {o : List ℕ} → 16 * blocks_of (length h) ≤ length y
    → let k = blocks_of (length h) in
    o ≡ each_block (enciphers s key) (take (16 * k) (put_first k (tweak_at nonce h) x)) (put_first k (block_at nonce h) y)
    → sum_from (replicate 16 0) (length (take (16 * k) o) / 16) (block (take (16 * k) o)) ≡ header_sum (enciphers s key) nonce h
unfolding put_first header_sum header_call
sum_alone s key nonce short h x y {o} room e =
    let k = blocks_of (length h) in
    let call : ℕ → List ℕ = λ i. enciphers s key (tweak_at nonce h i) (block_at nonce h i) in
    let long : (i : ℕ) → length (tweak_at nonce h i) ≡ 16 = tweak_long nonce h short in
    sum_strung (replicate 16 0) k call (drop (16 * k) y) o
    (λ i m. (enciphers_blockwise s key).long (tweak_at nonce h i) (block_at nonce h i) (long i) (block_whole nonce h i))
    (e ∙ put_enciphered s key k (tweak_at nonce h) (block_at nonce h) x y long (λ i m. block_whole nonce h i) room)
    ∙ sum_of_lem k call

-- and one more behind them
module _ (s : Suite) (key nonce : List ℕ) (short : length nonce ≤ 15) (h tweak b : List ℕ) (tl : length tweak ≡ 16) (bl : length b ≡ 16) where
  abbrev k : ℕ
  k = blocks_of (length h)

  abbrev tweaks : ℕ → List ℕ
  tweaks = followed k (tweak_at nonce h) tweak

  abbrev blocks : ℕ → List ℕ
  blocks = followed k (block_at nonce h) b

  -- their outcomes
  pub outs : ℕ → List ℕ
  outs i = enciphers s key (tweaks i) (blocks i)

  tweaks-long : (i : ℕ) → length (tweaks i) ≡ 16
  tweaks-long = followed-long k (tweak_at nonce h) (tweak_long nonce h short) tweak tl

  blocks-long : (i : ℕ) → length (blocks i) ≡ 16
  blocks-long = followed-long k (block_at nonce h) (block_whole nonce h) b bl

  outs-long : (i : ℕ) → length (outs i) ≡ 16
  unfolding outs
  outs-long i = (enciphers_blockwise s key).long (tweaks i) (blocks i) (tweaks-long i) (blocks-long i)

  pub run_is : (x y : List ℕ) → 16 * k + 16 ≤ length y
      → each_block (enciphers s key)
      (take (16 * k + 16) (paste (put_first k (tweak_at nonce h) x) (16 * k) tweak 16)) (paste (put_first k (block_at nonce h) y) (16 * k) b 16)
      ≡ put_first (k + 1) outs y
  unfolding outs
  run_is x y room =
      let n : 16 * k + 16 ≡ 16 * (k + 1) = omega arith in
      let t = put-behind k (tweak_at nonce h) (tweak_long nonce h short) tweak tl x in
      (λ j. each_block (enciphers s key) (take (n j) (t j)) (put-behind k (block_at nonce h) (block_whole nonce h) b bl y j))
      ∙ put_enciphered s key (k + 1) tweaks blocks x y tweaks-long (λ i m. blocks-long i) (omega arith)

  pub sum_is : (y : List ℕ)
      → sum_from (replicate 16 0) (length (take (16 * k) (put_first (k + 1) outs y)) / 16) (block (take (16 * k) (put_first (k + 1) outs y)))
      ≡ header_sum (enciphers s key) nonce h
  unfolding put_first strung header_sum header_call outs
  sum_is y =
      let call : ℕ → List ℕ = λ i. enciphers s key (tweak_at nonce h i) (block_at nonce h i) in
      let rest = drop (16 * (k + 1)) y in
      let parts : put_first (k + 1) outs y ≡ strung k outs ++ (outs k ++ rest) =
      ap (λ (n : ℕ). strung n outs ++ rest) (add-one k) ∙ append_assoc (strung k outs) (outs k) rest in
      let same : (i : ℕ) → i < k → call i ≡ outs i =
      λ i m j. enciphers s key (before k (tweak_at nonce h) tweak i m j) (before k (block_at nonce h) b i m j) in
      sum_strung (replicate 16 0) k outs (outs k ++ rest) (put_first (k + 1) outs y) (λ i m. outs-long i) parts
      ∙ sum_ext (replicate 16 0) k outs call (λ i m. sym (same i m))
      ∙ sum_of_lem k call

  pub more_is : (y : List ℕ) → block (put_first (k + 1) outs y) k ≡ enciphers s key tweak b
  unfolding outs
  more_is y =
      put_block (k + 1) outs y (λ i m. outs-long i) k (omega arith)
      ∙ sym (λ j. enciphers s key (behind k (tweak_at nonce h) tweak j) (behind k (block_at nonce h) b j))
