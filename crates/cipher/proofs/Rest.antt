-- Where the first blocks are done, the others by themselves.
use mathlib.Core.Path.{◌≡◌, sym, ap, ◌∙◌}
use mathlib.Core.List.{List, [], ◌++◌, append_assoc, append-nil}
use Prim.Native.Nat.{ℕ, ◌+◌, ◌-◌, ◌*◌, ◌/◌, ◌≤◌, min}
use native.Mathlib.Omega.{arith}
use lib.ListN.{length, take, drop, length-drop, drop_of_length-le}
use lib.Seq.{take_at, drop_at, drop-drop}
use Rattle.bits.proofs.Lists.{part_rest}
use Rattle.blockwise.specs.Blocks.{block, strung, each_of, each_block}
use Rattle.blockwise.proofs.Each.{Blockwise, block_long, block_later, strung_whole, strung_add, strung_ext}

module _ (f : List ℕ → List ℕ → List ℕ) (k : Blockwise f) (t b : List ℕ) (g : ℕ) (few : g ≤ min (length t) (length b) / 16) where
  w : ℕ
  w = min (length t) (length b) / 16

  abbrev each : ℕ → List ℕ
  each i = f (block t i) (block b i)

  before : length (strung g each) ≡ 16 * g
  before =
      strung_whole g each
      (λ i h. k.long (block t i) (block b i) (block_long t i (omega arith)) (block_long b i (omega arith)))

  pub each_rest : {x : List ℕ} → x ≡ each_of f g t b → take (16 * g) x ++ each_block f (drop (16 * g) t) (drop (16 * g) x) ≡ each_block f t b
  unfolding each_block each_of w
  each_rest {x} e =
      (λ i. front i ++ each_of f (count i) (drop (16 * g) t) (rest i))
      ∙ ap (λ (l : List ℕ). strung g each ++ (l ++ drop (16 * (w - g)) (drop (16 * g) b))) blocks
      ∙ sym (append_assoc (strung g each) (strung (w - g) (λ i. each (g + i))) (drop (16 * (w - g)) (drop (16 * g) b)))
      ∙ (λ i. parts i ++ end i)
    where
      front : take (16 * g) x ≡ strung g each
      front = ap (take (16 * g)) e ∙ take_at (strung g each) (drop (16 * g) b) (16 * g) before

      rest : drop (16 * g) x ≡ drop (16 * g) b
      rest = ap (drop (16 * g)) e ∙ drop_at (strung g each) (drop (16 * g) b) (16 * g) before

      count : min (length (drop (16 * g) t)) (length (drop (16 * g) x)) / 16 ≡ w - g
      count =
          let lt = length-drop (16 * g) t in
          let lx = ap length rest ∙ length-drop (16 * g) b in
          omega arith

      blocks : strung (w - g) (λ i. f (block (drop (16 * g) t) i) (block (drop (16 * g) b) i)) ≡ strung (w - g) (λ i. each (g + i))
      blocks =
          strung_ext (w - g) (λ i. f (block (drop (16 * g) t) i) (block (drop (16 * g) b) i)) (λ i. each (g + i))
          (λ i h. λ j. f (block_later g i t j) (block_later g i b j))

      whole : g + (w - g) ≡ w
      whole = omega arith

      parts : strung g each ++ strung (w - g) (λ i. each (g + i)) ≡ strung w each
      parts = sym (strung_add g (w - g) each) ∙ ap (λ (n : ℕ). strung n each) whole

      end : drop (16 * (w - g)) (drop (16 * g) b) ≡ drop (16 * w) b
      end =
          let place : 16 * g + 16 * (w - g) ≡ 16 * w = omega arith in
          drop-drop (16 * (w - g)) (16 * g) b ∙ ap (λ (n : ℕ). drop n b) place

  -- the same with the parts as slices are lent and come back
  pub all_done : {x o : List ℕ} → x ≡ each_of f g t b
      → o ≡ each_block f (take (length t - 16 * g) (drop (16 * g) t)) (take (length x - 16 * g) (drop (16 * g) x))
      → take (16 * g) x ++ (o ++ drop (length x - 16 * g) (drop (16 * g) x)) ≡ each_block f t b
  all_done {x} {o} e h =
      let none : drop (length x - 16 * g) (drop (16 * g) x) ≡ [] =
      drop_of_length-le (drop (16 * g) x) {i = length x - 16 * g} (rw (length-drop (16 * g) x) (omega arith)) in
      (λ i. take (16 * g) x ++ (h i ++ none i))
      ∙ ap (λ (l : List ℕ). take (16 * g) x ++ l)
      (append-nil (each_block f (take (length t - 16 * g) (drop (16 * g) t)) (take (length x - 16 * g) (drop (16 * g) x)))
      ∙ (λ i. each_block f (part_rest (16 * g) t i) (part_rest (16 * g) x i)))
      ∙ each_rest e
