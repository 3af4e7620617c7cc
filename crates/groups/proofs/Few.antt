-- A few blocks more, and a few blocks by a group that is filled up.
use mathlib.Core.Path.{◌≡◌, sym, ap, ◌∙◌}
use mathlib.Core.List.{List, [], ◌++◌, append_assoc, append-nil}
use Prim.Native.Nat.{ℕ, ◌+◌, ◌-◌, ◌*◌, ◌≤◌, ◌<◌}
use native.Mathlib.Nat.{le_of_eq}
use native.Mathlib.Omega.{arith}
use lib.ListN.{length, take, drop, length-drop, drop_of_length-le}
use lib.Seq.{take_at, drop_at, drop-drop, take_all, length-take-le}
use Rattle.blockwise.specs.Blocks.{block, strung, each_of}
use Rattle.blockwise.proofs.Each.{Blockwise, block_long, block_append, block_taken, strung_whole, strung_add, strung_ext}
use Rattle.groups.specs.Group.{few_at}

-- the block at a place behind n blocks
there : (n i : ℕ) (x : List ℕ) → take 16 (drop (16 * n + 16 * i) x) ≡ block x (n + i)
there n i x =
    let e : 16 * n + 16 * i ≡ 16 * (n + i) = omega arith in
    ap (λ (k : ℕ). take 16 (drop k x)) e

module _ (f : List ℕ → List ℕ → List ℕ) (k : Blockwise f) (t b : List ℕ) where
  each : ℕ → List ℕ
  each i = f (block t i) (block b i)

  each-sixteen : (n : ℕ) → 16 * n ≤ length t → 16 * n ≤ length b → (i : ℕ) → i < n → length (each i) ≡ 16
  unfolding each
  each-sixteen n ht hb i h = k.long (block t i) (block b i) (block_long t i (omega arith)) (block_long b i (omega arith))

  -- j blocks more
  pub few_more : (n j : ℕ) {x : List ℕ} → 16 * (n + j) ≤ length t → 16 * (n + j) ≤ length b → x ≡ each_of f n t b
      → few_at f j (16 * n) t x ≡ each_of f (n + j) t b
  unfolding few_at each_of each
  few_more n j {x} ht hb e =
      (λ i. (front i ++ middle i) ++ end i)
      ∙ ap (λ (l : List ℕ). l ++ drop (16 * (n + j)) b) (sym (strung_add n j each))
    where
      before : length (strung n each) ≡ 16 * n
      before = strung_whole n each (each-sixteen n (omega arith) (omega arith))

      front : take (16 * n) x ≡ strung n each
      front = ap (take (16 * n)) e ∙ take_at (strung n each) (drop (16 * n) b) (16 * n) before

      rest : drop (16 * n) x ≡ drop (16 * n) b
      rest = ap (drop (16 * n)) e ∙ drop_at (strung n each) (drop (16 * n) b) (16 * n) before

      same : (i : ℕ) → take 16 (drop (16 * n + 16 * i) x) ≡ take 16 (drop (16 * n + 16 * i) b)
      same i = ap (take 16) (sym (drop-drop (16 * i) (16 * n) x) ∙ ap (drop (16 * i)) rest ∙ drop-drop (16 * i) (16 * n) b)

      blocks : strung j (λ i. f (take 16 (drop (16 * n + 16 * i) t)) (take 16 (drop (16 * n + 16 * i) x))) ≡ strung j (λ i. each (n + i))
      blocks =
          strung_ext j (λ i. f (take 16 (drop (16 * n + 16 * i) t)) (take 16 (drop (16 * n + 16 * i) x))) (λ i. each (n + i))
          (λ i h. λ m. f (there n i t m) ((same i ∙ there n i b) m))

      long : length (strung j (λ i. each (n + i))) ≡ 16 * j
      long = strung_whole j (λ i. each (n + i)) (λ i h. each-sixteen (n + j) ht hb (n + i) (omega arith))

      middle : take (16 * j) (strung j (λ i. f (take 16 (drop (16 * n + 16 * i) t)) (take 16 (drop (16 * n + 16 * i) x)))) ≡ strung j (λ i. each (n + i))
      middle = ap (take (16 * j)) blocks ∙ take_all (16 * j) (strung j (λ i. each (n + i))) (le_of_eq long)

      end : drop (16 * n + 16 * j) x ≡ drop (16 * (n + j)) b
      end =
          let place : 16 * n + 16 * j ≡ 16 * (n + j) = omega arith in
          sym (drop-drop (16 * j) (16 * n) x) ∙ ap (drop (16 * j)) rest ∙ drop-drop (16 * j) (16 * n) b ∙ ap (λ (m : ℕ). drop m b) place

-- a part of a slice at the start of a longer one: its blocks
part_block : (at r i : ℕ) (s z : List ℕ) → at + 16 * r ≤ length s → i < r
    → take 16 (drop (0 + 16 * i) (take (16 * r) (drop at s) ++ z)) ≡ take 16 (drop (at + 16 * i) s)
part_block at r i s z room h =
    let zero-first : 0 + 16 * i ≡ 16 * i = omega arith in
    let rest : 16 * r ≤ length (drop at s) = rw (length-drop at s) (omega arith) in
    ap (λ (n : ℕ). take 16 (drop n (take (16 * r) (drop at s) ++ z))) zero-first
    ∙ block_append (take (16 * r) (drop at s)) z i (rw (length-take-le (16 * r) (drop at s) rest) (omega arith))
    ∙ block_taken r (drop at s) rest i h
    ∙ ap (take 16) (drop-drop (16 * i) at s)

-- what of a group that is filled up is put back
pub few_filled : (f : List ℕ → List ℕ → List ℕ) → Blockwise f → (r at : ℕ) (t b : List ℕ) → r ≤ 64 → at + 16 * r ≤ length t → at + 16 * r ≤ length b
    → (t' b' y : List ℕ) → length t' ≡ 1024 → length b' ≡ 1024
    → (zt zb : List ℕ) → t' ≡ take (16 * r) (drop at t) ++ zt → b' ≡ take (16 * r) (drop at b) ++ zb
    → y ≡ few_at f 64 0 t' b' → take at b ++ (take (16 * r) y ++ drop (16 * r) (drop at b)) ≡ few_at f r at t b
unfolding few_at
few_filled f k r at t b hr ht hb t' b' y lt lb zt zb et eb ey =
    sym (append_assoc (take at b) (take (16 * r) y) (drop (16 * r) (drop at b)))
    ∙ (λ i. (take at b ++ part i) ++ drop-drop (16 * r) at b i)
  where
    mine : ℕ → List ℕ
    mine i = f (take 16 (drop (0 + 16 * i) t')) (take 16 (drop (0 + 16 * i) b'))

    theirs : ℕ → List ℕ
    theirs i = f (take 16 (drop (at + 16 * i) t)) (take 16 (drop (at + 16 * i) b))

    sixteen : (i : ℕ) → i < 64 → length (mine i) ≡ 16
    sixteen i h =
        k.long (take 16 (drop (0 + 16 * i) t')) (take 16 (drop (0 + 16 * i) b'))
        (length-take-le 16 (drop (0 + 16 * i) t') (rw (length-drop (0 + 16 * i) t') (omega arith)))
        (length-take-le 16 (drop (0 + 16 * i) b') (rw (length-drop (0 + 16 * i) b') (omega arith)))

    all-long : length (strung 64 mine) ≡ 1024
    all-long = strung_whole 64 mine sixteen

    all : y ≡ strung 64 mine
    all =
        ey
        ∙ (λ i. ([] ++ take_all 1024 (strung 64 mine) (le_of_eq all-long) i) ++ drop_of_length-le b' {i = 1024} (le_of_eq lb) i)
        ∙ append-nil (strung 64 mine)

    mine-long : length (strung r mine) ≡ 16 * r
    mine-long = strung_whole r mine (λ i h. sixteen i (omega arith))

    same : strung r mine ≡ strung r theirs
    same =
        strung_ext r mine theirs
        (λ i h.
        (λ j. f (take 16 (drop (0 + 16 * i) (et j))) (take 16 (drop (0 + 16 * i) (eb j))))
        ∙ (λ j. f (part_block at r i t zt ht h j) (part_block at r i b zb hb h j)))

    split : strung 64 mine ≡ strung r mine ++ strung (64 - r) (λ i. mine (r + i))
    split =
        let e : 64 ≡ r + (64 - r) = omega arith in
        ap (λ (n : ℕ). strung n mine) e ∙ strung_add r (64 - r) mine

    part : take (16 * r) y ≡ take (16 * r) (strung r theirs)
    part =
        ap (take (16 * r)) (all ∙ split)
        ∙ take_at (strung r mine) (strung (64 - r) (λ i. mine (r + i))) (16 * r) mine-long
        ∙ same
        ∙ sym (take_all (16 * r) (strung r theirs) (le_of_eq (ap length (sym same) ∙ mine-long)))
