-- Many blocks: what a loop over them does at each turn, and single blocks of the outcome.
use mathlib.Core.Path.{◌≡◌, refl, sym, ap, ◌∙◌}
use mathlib.Core.List.{List, [], ◌++◌, append_assoc, append-nil}
use Prim.Native.Nat.{ℕ, zero, suc, ◌+◌, ◌-◌, ◌*◌, ◌/◌, ◌≤◌, ◌<◌, min}
use native.Mathlib.Decide.{ℕ_discrete}
use native.Mathlib.Nat.{le_of_eq, add-zero, add-suc}
use native.Mathlib.Numerals.{add-one}
use native.Mathlib.Omega.{arith}
use lib.ListN.{length, get_or, take, drop, length-append, length-drop, drop_of_length-le, take-append-drop}
use lib.Seq.{paste, take_at, drop_at, drop-drop, take_all, take-append-le, drop-append-le, length-take-le}
use Rattle.std.specs.Simd.{first_chunks}
use Rattle.blockwise.specs.Blocks.{block, strung, each_of, each_block}

-- a function that makes a block of two blocks
pub record Blockwise (f : List ℕ → List ℕ → List ℕ) : Type 0 where
  pub long : (t b : List ℕ) → length t ≡ 16 → length b ≡ 16 → length (f t b) ≡ 16

pub block_long : (l : List ℕ) (i : ℕ) → 16 * i + 16 ≤ length l → length (block l i) ≡ 16
block_long l i h = length-take-le 16 (drop (16 * i) l) (rw (length-drop (16 * i) l) (omega arith))

-- block i of what follows the first k blocks
pub block_later : (k i : ℕ) (x : List ℕ) → block (drop (16 * k) x) i ≡ block x (k + i)
block_later k i x =
    let at : 16 * k + 16 * i ≡ 16 * (k + i) = omega arith in
    ap (take 16) (drop-drop (16 * i) (16 * k) x ∙ ap (λ (j : ℕ). drop j x) at)

-- the blocks that `as_chunks` gives
pub chunk_block : (n : ℕ) (s : List ℕ) (i : ℕ) (d : List ℕ) → i < n → get_or (first_chunks 16 n s) i d ≡ block s i
chunk_block zero s i d h = absurd (omega arith)
chunk_block (suc n) s zero d h = refl
chunk_block (suc n) s (suc i) d h =
    let next : 1 + i ≡ suc i = omega arith in
    chunk_block n (drop 16 s) i d (omega arith) ∙ block_later 1 i s ∙ ap (block s) next

-- a block within the first of two strings, and one of a front
pub block_append : (x y : List ℕ) (i : ℕ) → 16 * i + 16 ≤ length x → block (x ++ y) i ≡ block x i
block_append x y i h =
    ap (take 16) (drop-append-le (16 * i) x y (omega arith)) ∙ take-append-le 16 (drop (16 * i) x) y (rw length-drop (omega arith))

pub block_taken : (k : ℕ) (s : List ℕ) → 16 * k ≤ length s → (i : ℕ) → i < k → block (take (16 * k) s) i ≡ block s i
block_taken k s room i l =
    let long = length-take-le (16 * k) s room in
    sym (block_append (take (16 * k) s) (drop (16 * k) s) i (omega arith)) ∙ ap (λ (x : List ℕ). block x i) (take-append-drop (16 * k) s)

module _ (f : List ℕ → List ℕ → List ℕ) (k : Blockwise f) (t b : List ℕ) where
  done : ℕ → List ℕ
  done n = strung n (λ i. f (block t i) (block b i))

  done-long : (n : ℕ) → 16 * n ≤ length t → 16 * n ≤ length b → length (done n) ≡ 16 * n
  unfolding done strung
  done-long zero ht hb = refl
  done-long (suc n) ht hb =
      let l = k.long (block t n) (block b n) (block_long t n (omega arith)) (block_long b n (omega arith)) in
      length-append (done n) (f (block t n) (block b n)) ∙ omega (arith, l, done-long n (omega arith) (omega arith))

  pub each_none : b ≡ each_of f 0 t b
  unfolding each_of strung
  each_none = refl

  -- what is not done yet is as it was
  rest-is : (n : ℕ) → 16 * n ≤ length t → 16 * n ≤ length b → drop (16 * n) (each_of f n t b) ≡ drop (16 * n) b
  unfolding each_of done
  rest-is n ht hb = drop_at (done n) (drop (16 * n) b) (16 * n) (done-long n ht hb)

  pub each_long : (n : ℕ) → 16 * n ≤ length t → 16 * n ≤ length b → length (each_of f n t b) ≡ length b
  unfolding each_of done
  each_long n ht hb =
      length-append (done n) (drop (16 * n) b) ∙ omega (arith, done-long n ht hb, length-drop (16 * n) b)

  -- one block more
  pub each_more : (n : ℕ) → 16 * n + 16 ≤ length t → 16 * n + 16 ≤ length b
      → paste (each_of f n t b) (16 * n) (f (take 16 (drop (16 * n) t)) (take 16 (drop (16 * n) (each_of f n t b)))) 16 ≡ each_of f (n + 1) t b
  unfolding each_of strung done
  each_more n ht hb =
      let front : take (16 * n) (each_of f n t b) ≡ done n = take_at (done n) (drop (16 * n) b) (16 * n) (done-long n (omega arith) (omega arith)) in
      let rest : drop (16 * n) (each_of f n t b) ≡ drop (16 * n) b = rest-is n (omega arith) (omega arith) in
      let new : List ℕ = f (block t n) (block b n) in
      let whole : take 16 new ≡ new =
      take_all 16 new (le_of_eq (k.long (block t n) (block b n) (block_long t n (omega arith)) (block_long b n (omega arith)))) in
      let middle : take 16 (f (take 16 (drop (16 * n) t)) (take 16 (drop (16 * n) (each_of f n t b)))) ≡ new =
      ap (λ (l : List ℕ). take 16 (f (block t n) (take 16 l))) rest ∙ whole in
      let sixteens : 16 * n + 16 ≡ 16 * suc n = omega arith in
      let end : drop (16 * n + 16) (each_of f n t b) ≡ drop (16 * suc n) b =
      sym (drop-drop 16 (16 * n) (each_of f n t b)) ∙ ap (drop 16) rest ∙ drop-drop 16 (16 * n) b ∙ ap (λ (m : ℕ). drop m b) sixteens in
      (λ i. front i ++ middle i ++ end i) ∙ sym (ap (λ (m : ℕ). each_of f m t b) (add-one n))

-- blocks that are strung: how long they are, and in two parts
pub strung_whole : (n : ℕ) (g : ℕ → List ℕ) → ((i : ℕ) → i < n → length (g i) ≡ 16) → length (strung n g) ≡ 16 * n
unfolding strung
strung_whole zero g h = refl
strung_whole (suc n) g h =
    length-append (strung n g) (g n) ∙ omega (arith, strung_whole n g (λ i l. h i (omega arith)), h n (omega arith))

pub strung_add : (n k : ℕ) (g : ℕ → List ℕ) → strung (n + k) g ≡ strung n g ++ strung k (λ i. g (n + i))
unfolding strung
strung_add n zero g = rw add-zero (sym (append-nil (strung n g)))
strung_add n (suc k) g =
    ap (λ (m : ℕ). strung m g) (add-suc n k)
    ∙ ap (λ (x : List ℕ). x ++ g (n + k)) (strung_add n k g)
    ∙ append_assoc (strung n g) (strung k (λ i. g (n + i))) (g (n + k))

-- strung blocks that are the same
pub strung_ext : (n : ℕ) (f g : ℕ → List ℕ) → ((i : ℕ) → i < n → f i ≡ g i) → strung n f ≡ strung n g
unfolding strung
strung_ext zero f g h = refl
strung_ext (suc n) f g h = λ j. strung_ext n f g (λ i l. h i (omega arith)) j ++ h n (omega arith) j

-- block i of strung blocks, of which only the last may be shorter
pub block_of_strung : (n : ℕ) (g : ℕ → List ℕ) → ((i : ℕ) → suc i < n → length (g i) ≡ 16) → ((i : ℕ) → i < n → length (g i) ≤ 16)
    → (i : ℕ) → i < n → block (strung n g) i ≡ g i
unfolding strung
block_of_strung n g whole short i h =
    ap (λ (x : List ℕ). block x i) split
    ∙ ap (take 16) (drop_at (strung i g) (g i ++ rest) (16 * i) (strung_whole i g (λ j l. whole j (omega arith))))
    ∙ first (ℕ_discrete n (suc i))
  where
    rest : List ℕ
    rest = strung (n - suc i) (λ j. g (suc i + j))

    split : strung n g ≡ strung i g ++ (g i ++ rest)
    split =
        let parts : n ≡ suc i + (n - suc i) = omega arith in
        ap (λ (m : ℕ). strung m g) parts ∙ strung_add (suc i) (n - suc i) g ∙ append_assoc (strung i g) (g i) rest

    first : Dec (n ≡ suc i) → take 16 (g i ++ rest) ≡ g i
    first (yes e) =
        let none : n - suc i ≡ 0 = omega arith in
        rw (none, append-nil) (take_all 16 (g i) (short i h))
    first (no d) = take_at (g i) rest 16 (whole i (omega arith))

-- Each whole block of the outcome is f of its tweak and itself; what is behind them is as it was.
pub block_of_each : (f : List ℕ → List ℕ → List ℕ) → Blockwise f → (t b : List ℕ) (i : ℕ) → i < min (length t) (length b) / 16
    → block (each_block f t b) i ≡ f (block t i) (block b i)
unfolding each_block each_of
block_of_each f k t b i h =
    let n = min (length t) (length b) / 16 in
    let g : ℕ → List ℕ = λ j. f (block t j) (block b j) in
    let long : (j : ℕ) → j < n → length (g j) ≡ 16 = λ j l. k.long (block t j) (block b j) (block_long t j (omega arith)) (block_long b j (omega arith)) in
    block_append (strung n g) (drop (16 * n) b) i (omega (arith, strung_whole n g long))
    ∙ block_of_strung n g (λ j l. long j (omega arith)) (λ j l. le_of_eq (long j l)) i h

pub rest_of_each : (f : List ℕ → List ℕ → List ℕ) → Blockwise f → (t b : List ℕ)
    → drop (16 * (min (length t) (length b) / 16)) (each_block f t b) ≡ drop (16 * (min (length t) (length b) / 16)) b
unfolding each_block
rest_of_each f k t b = rest-is f k t b (min (length t) (length b) / 16) (omega arith) (omega arith)

pub length_of_each : (f : List ℕ → List ℕ → List ℕ) → Blockwise f → (t b : List ℕ) → length (each_block f t b) ≡ length b
unfolding each_block
length_of_each f k t b = each_long f k t b (min (length t) (length b) / 16) (omega arith) (omega arith)

-- of a single block: the block
pub each_one : (f : List ℕ → List ℕ → List ℕ) (t b : List ℕ) → length t ≡ 16 → length b ≡ 16 → each_block f t b ≡ f t b
unfolding each_block each_of strung
each_one f t b ht hb =
    let one : min (length t) (length b) / 16 ≡ 1 = omega arith in
    let all : (l : List ℕ) → length l ≡ 16 → take 16 l ≡ l = λ l e. take_all 16 l (le_of_eq e) in
    ap (λ (n : ℕ). each_of f n t b) one
    ∙ (λ i. ([] ++ f (all t ht i) (all b hb i)) ++ drop_of_length-le b {i = 16} (le_of_eq hb) i)
    ∙ append-nil (f t b)

-- equal functions do the same
pub each_ext : {f g : List ℕ → List ℕ → List ℕ} → ((t b : List ℕ) → f t b ≡ g t b) → (t b : List ℕ) → each_block f t b ≡ each_block g t b
each_ext {f} {g} e t b = λ i. each_block (λ x y. e x y i) t b
