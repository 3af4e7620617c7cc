-- Blocks put at a buffer's start: how long it stays, one block more, and each of them.
use mathlib.Core.Path.{◌≡◌, refl, sym, ap, ◌∙◌}
use mathlib.Core.List.{List, ◌++◌}
use Prim.Native.Nat.{ℕ, suc, ◌+◌, ◌*◌, ◌≤◌, ◌<◌}
use native.Mathlib.Nat.{le_of_eq}
use native.Mathlib.Numerals.{add-one}
use native.Mathlib.Omega.{arith}
use lib.ListN.{length, take, drop, length-append, length-drop}
use lib.Seq.{paste, take_at, drop_at, drop-drop, take_all, length-take-le}
use Rattle.blockwise.specs.Blocks.{block, strung}
use Rattle.blockwise.proofs.Each.{block_append, block_taken, block_of_strung, strung_ext, strung_whole}
use Rattle.calls.specs.Tweak.{blocks_of}
use Rattle.calls.proofs.Strung.{strung_blocks}
use Rattle.batch.specs.Batch.{put_first}

-- a block put behind x
pub pasted_behind : (x rest b : List ℕ) (at : ℕ) → length x ≡ at → length b ≡ 16 → paste (x ++ rest) at b 16 ≡ x ++ b ++ drop 16 rest
pasted_behind x rest b at lx lb =
    let behind : drop (at + 16) (x ++ rest) ≡ drop 16 rest = sym (drop-drop 16 at (x ++ rest)) ∙ ap (drop 16) (drop_at x rest at lx) in
    λ j. take_at x rest at lx j ++ take_all 16 b (le_of_eq lb) j ++ behind j

pub put_none : (g : ℕ → List ℕ) (buffer : List ℕ) → buffer ≡ put_first 0 g buffer
unfolding put_first strung
put_none g buffer = refl

-- blocks that are strung already
pub put_is : (k : ℕ) (f g : ℕ → List ℕ) (buffer : List ℕ) → ((i : ℕ) → i < k → f i ≡ g i) → strung k f ++ drop (16 * k) buffer ≡ put_first k g buffer
unfolding put_first
put_is k f g buffer e = ap (λ (x : List ℕ). x ++ drop (16 * k) buffer) (strung_ext k f g e)

-- the first k blocks of s
pub front_strung : (k : ℕ) (s : List ℕ) → 16 * k ≤ length s → take (16 * k) s ≡ strung k (block s)
front_strung k s room =
    let t = take (16 * k) s in
    let count : blocks_of (length t) ≡ k = omega (arith, length-take-le (16 * k) s room) in
    sym (strung_blocks t) ∙ ap (λ (j : ℕ). strung j (block t)) count ∙ strung_ext k (block t) (block s) (block_taken k s room)

-- blocks that are copied
pub put_copied : (k : ℕ) (s : List ℕ) (g : ℕ → List ℕ) (buffer : List ℕ) → 16 * k ≤ length s → ((i : ℕ) → i < k → block s i ≡ g i)
    → take (16 * k) s ++ drop (length (take (16 * k) s)) buffer ≡ put_first k g buffer
put_copied k s g buffer room e =
    (λ j. front_strung k s room j ++ drop (length-take-le (16 * k) s room j) buffer) ∙ put_is k (block s) g buffer e

module _ (k : ℕ) (g : ℕ → List ℕ) (buffer : List ℕ) (long : (i : ℕ) → i < k → length (g i) ≡ 16) where
  pub put_front : take (16 * k) (put_first k g buffer) ≡ strung k g
  unfolding put_first
  put_front = take_at (strung k g) (drop (16 * k) buffer) (16 * k) (strung_whole k g long)

  pub put_rest : drop (16 * k) (put_first k g buffer) ≡ drop (16 * k) buffer
  unfolding put_first
  put_rest = drop_at (strung k g) (drop (16 * k) buffer) (16 * k) (strung_whole k g long)

  pub put_long : 16 * k ≤ length buffer → length (put_first k g buffer) ≡ length buffer
  unfolding put_first
  put_long room = length-append (strung k g) (drop (16 * k) buffer) ∙ omega (arith, strung_whole k g long, length-drop (16 * k) buffer)

  -- block i of the buffer
  pub put_block : (i : ℕ) → i < k → block (put_first k g buffer) i ≡ g i
  unfolding put_first
  put_block i h =
      block_append (strung k g) (drop (16 * k) buffer) i (omega (arith, strung_whole k g long))
      ∙ block_of_strung k g (λ j l. long j (omega arith)) (λ j l. le_of_eq (long j l)) i h

  -- one block more, behind them
  pub put_more : (b : List ℕ) → length b ≡ 16 → b ≡ g k → paste (put_first k g buffer) (16 * k) b 16 ≡ put_first (k + 1) g buffer
  unfolding put_first strung
  put_more b l e =
      let sixteens : 16 * k + 16 ≡ 16 * suc k = omega arith in
      pasted_behind (strung k g) (drop (16 * k) buffer) b (16 * k) (strung_whole k g long) l
      ∙ (λ i. strung k g ++ e i ++ (drop-drop 16 (16 * k) buffer ∙ ap (λ (m : ℕ). drop m buffer) sixteens) i)
      ∙ sym (ap (λ (m : ℕ). put_first m g buffer) (add-one k))
