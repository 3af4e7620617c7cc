-- Words that are read hold the rows of the blocks.
use mathlib.Core.Path.{◌≡◌, refl, sym, ap, ◌∙◌}
use mathlib.Core.List.{List, [], ◌∷◌}
use Prim.Native.Nat.{ℕ, zero, suc, ◌+◌, ◌*◌, ◌/◌, ◌%◌, ◌≤◌, ◌<◌}
use native.Mathlib.Nat.{add-zero, mod-lt}
use native.Mathlib.Decide.{ℕ_discrete}
use native.Mathlib.Omega.{arith}
use lib.Dec.{lit<}
use lib.ListN.{length, get_or, set, take, drop, length-set, length-drop}
use lib.Seq.{get_or-set_same, get_or-set_other, get_or-take, get_or-drop, length-take-le}
use Rattle.bits.proofs.Elements.{tab_same_at, tab_of}
use Rattle.state.specs.Block.{rows}
use Rattle.state.proofs.Trips.{rows_long}
use Rattle.transposition.specs.Levels.{word_at, turned}
use Rattle.planes.specs.Loaded.{row_from, digit, Four, Fours, Loaded, rows_in}
use Rattle.planes.proofs.Turned.{turned_shaped, lane_turned}

-- the q-th row of a word
four_digit : {s : List ℕ} {at w : ℕ} → Four s at w → (q : ℕ) → q < 4 → digit w q ≡ row_from s (at + 2 * q)
four_digit {s} {at} u zero h = rw (add-zero at) u.first
four_digit u (suc zero) h = u.second
four_digit u (suc (suc zero)) h = u.third
four_digit u (suc (suc (suc zero))) h = u.fourth
four_digit u (suc (suc (suc (suc q)))) h = absurd (omega arith)

-- row i of a block
rows_at : (n : ℕ) (b : List ℕ) → length b ≡ 2 * n → (i : ℕ) → i < n → get_or (rows b) i 0 ≡ row_from b (2 * i)
unfolding rows
rows_at n [] e i h = absurd (omega arith)
rows_at n (x ∷ []) e i h = absurd (omega arith)
rows_at n (x ∷ y ∷ b) e zero h = refl
rows_at zero (x ∷ y ∷ b) e (suc i) h = absurd (omega arith)
rows_at (suc n) (x ∷ y ∷ b) e (suc i) h =
    let long : length b ≡ 2 * n = less (length b) n e in
    let one : suc (suc (2 * i)) ≡ 2 * suc i = omega arith in
    let two : suc (suc (2 * i + 1)) ≡ 2 * suc i + 1 = omega arith in
    rows_at n b long i (omega arith)
    ∙ (λ j. get_or (x ∷ y ∷ b) (one j) 0 + get_or (x ∷ y ∷ b) (two j) 0 * 256)
  where
    less : (l n : ℕ) → suc (suc l) ≡ 2 * suc n → l ≡ 2 * n
    less l n e = omega arith

-- one word more
pub fours_none : (s : List ℕ) (at : ℕ) (r : List ℕ) → length r ≡ 16 → Fours s at 0 r
fours_none s at r e = record { long = e; fours = λ c h. absurd (omega arith) }

pub fours_more : {s : List ℕ} {at k : ℕ} {r : List ℕ} → Fours s at k r → k < 16 → (w : ℕ) → Four s (at + 16 * k) w → Fours s at (k + 1) (set r k w)
fours_more {s} {at} {k} {r} f h w e = record { long = length-set r k w ∙ f.long; fours = λ c hc. fours c hc (ℕ_discrete c k) }
  where
    fours : (c : ℕ) → c < k + 1 → Dec (c ≡ k) → Four s (at + 16 * c) (get_or (set r k w) c 0)
    fours c hc (yes q) = rw q (rw (get_or-set_same r k w 0 (rw f.long h)) e)
    fours c hc (no n) = rw (get_or-set_other r k c w 0 n) (f.fours c (omega arith))

-- rows of words: the first words of 16 blocks each, then the second ones
abbrev pub place_of : ℕ → ℕ → ℕ
place_of at i = at + (256 * (i % 4) + 8 * (i / 4))

-- the first k rows are read
pub record Read (s : List ℕ) (at k : ℕ) (x : List (List ℕ)) : Type 0 where
  pub long : length x ≡ 8
  pub rows : (i : ℕ) → i < k → Fours s (place_of at i) 16 (get_or x i [])

pub read_none : (s : List ℕ) (at : ℕ) (x : List (List ℕ)) → length x ≡ 8 → Read s at 0 x
read_none s at x e = record { long = e; rows = λ i h. absurd (omega arith) }

pub read_more : {s : List ℕ} {at k : ℕ} {x : List (List ℕ)} → Read s at k x → k < 8 → (r : List ℕ) → Fours s (place_of at k) 16 r → Read s at (k + 1) (set x k r)
read_more {s} {at} {k} {x} f h r e = record { long = length-set x k r ∙ f.long; rows = λ i hi. row i hi (ℕ_discrete i k) }
  where
    row : (i : ℕ) → i < k + 1 → Dec (i ≡ k) → Fours s (place_of at i) 16 (get_or (set x k r) i [])
    row i hi (yes q) = rw q (rw (get_or-set_same x k r [] (rw f.long h)) e)
    row i hi (no n) = rw (get_or-set_other x k i r [] n) (f.rows i (omega arith))

place_of_lem : (at b i : ℕ) → at + (256 * (b / 16) + 8 * (i / 4)) + 16 * (b % 16) + 2 * (i % 4) ≡ at + 16 * b + 2 * i
place_of_lem at b i = omega arith

module _ (s : List ℕ) (at : ℕ) (x : List (List ℕ)) (r : Read s at 8 x) (room : at + 1024 ≤ length s) where
  rows-read : (b : ℕ) → b < 64 → rows_in x b ≡ rows (take 16 (drop (at + 16 * b) s))
  unfolding rows_in
  rows-read b h =
      tab_same_at 8 (λ i. digit (word_at x (64 * (i / 4) + b)) (i % 4)) (λ i. get_or (rows k) i 0) row
      ∙ tab_of 0 8 (rows k) (rows_long 8 k long)
    where
      k : List ℕ
      k = take 16 (drop (at + 16 * b) s)

      long : length k ≡ 16
      long = length-take-le 16 (drop (at + 16 * b) s) (rw (length-drop (at + 16 * b) s) (omega arith))

      byte : (j : ℕ) → j < 16 → get_or k j 0 ≡ get_or s (at + 16 * b + j) 0
      byte j hj = get_or-take 16 (drop (at + 16 * b) s) j 0 hj ∙ get_or-drop (at + 16 * b) s j 0

      row : (i : ℕ) → i < 8 → digit (word_at x (64 * (i / 4) + b)) (i % 4) ≡ get_or (rows k) i 0
      row i hi =
          let n = 64 * (i / 4) + b in
          let sixteens : n / 16 % 4 ≡ b / 16 = omega arith in
          let halves : n / 16 / 4 ≡ i / 4 = omega arith in
          let left : n % 16 ≡ b % 16 = omega arith in
          let place : place_of at (n / 16) + 16 * (n % 16) + 2 * (i % 4) ≡ at + 16 * b + 2 * i =
          (λ z. at + (256 * sixteens z + 8 * halves z) + 16 * left z + 2 * (i % 4)) ∙ place_of_lem at b i in
          let next : at + 16 * b + 2 * i + 1 ≡ at + 16 * b + (2 * i + 1) = omega arith in
          four_digit ((r.rows (n / 16) (omega arith)).fours (n % 16) (mod-lt n (lit< tt))) (i % 4) (mod-lt i (lit< tt))
          ∙ ap (row_from s) place
          ∙ ap (λ (p : ℕ). get_or s (at + 16 * b + 2 * i) 0 + get_or s p 0 * 256) next
          ∙ sym (λ j. byte (2 * i) (omega arith) j + byte (2 * i + 1) (omega arith) j * 256)
          ∙ sym (rows_at 8 k long i hi)

  -- turned, they are the planes of the blocks
  pub loaded : Loaded s at (turned x)
  loaded = record { shape = turned_shaped x; lanes = λ b h. lane_turned x b h ∙ rows-read b h }
