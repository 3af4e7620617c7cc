-- Turned words are the planes of the states in them, and turned planes the words of the states in those.
use mathlib.Core.Path.{◌≡◌, refl, sym, ap, ◌∙◌}
use mathlib.Core.List.{List, []}
use Prim.Native.Nat.{ℕ, ◌+◌, ◌*◌, ◌/◌, ◌%◌, ◌<◌}
use native.Mathlib.Omega.{arith}
use lib.ListN.{length, get_or}
use Rattle.bits.specs.Bit.{bit}
use Rattle.bits.specs.Table.{tab}
use Rattle.bits.proofs.Bits.{gather_ext}
use Rattle.bits.proofs.Elements.{tab_at, tab_same_at}
use Rattle.bits.proofs.Shifts.{gather_from}
use Rattle.transposition.specs.Levels.{word_at, exchanged, level, turned}
use Rattle.transposition.proofs.Turned.{turned_bit}
use Rattle.planes.specs.Loaded.{digit, rows_in}
use Rattle.planes.specs.Planes.{row_at, lane, Shaped}

level_shaped : (d m : ℕ) (x : List (List ℕ)) → Shaped (level d m x)
unfolding level
level_shaped d m x =
    record {
      long = refl;
      wide = λ i h. ap (λ (l : List ℕ). length l) (tab_at [] 8 (λ i. tab 16 (λ c. exchanged d m x (16 * i + c))) i h);
    }

pub turned_shaped : (x : List (List ℕ)) → Shaped (turned x)
unfolding turned
turned_shaped x = level_shaped 32 0x00000000FFFFFFFF _

-- plane j of row i is word 16 i + j
plane_at : (x : List (List ℕ)) (i j : ℕ) → j < 16 → get_or (get_or x i []) j 0 ≡ word_at x (16 * i + j)
plane_at x i j h =
    let row : i ≡ (16 * i + j) / 16 = omega arith in
    let place : j ≡ (16 * i + j) % 16 = omega arith in
    λ k. get_or (get_or x (row k) []) (place k) 0

pub lane_turned : (x : List (List ℕ)) (b : ℕ) → b < 64 → lane (turned x) b ≡ rows_in x b
unfolding lane row_at rows_in
lane_turned x b h =
    tab_same_at 8 (λ i. row_at (get_or (turned x) i []) b) (λ i. digit (word_at x (64 * (i / 4) + b)) (i % 4))
    (λ i hi.
    gather_ext 16 (λ j. bit (get_or (get_or (turned x) i []) j 0) b) (λ j. bit (word_at x (64 * (i / 4) + b)) (16 * (i % 4) + j)) (at i hi)
    ∙ gather_from 16 (word_at x (64 * (i / 4) + b)) (16 * (i % 4)))
  where
    at : (i : ℕ) → i < 8 → (j : ℕ) → j < 16 → bit (get_or (get_or (turned x) i []) j 0) b ≡ bit (word_at x (64 * (i / 4) + b)) (16 * (i % 4) + j)
    at i hi j hj =
        let n = 16 * i + j in
        let word : 64 * (n / 64) + b ≡ 64 * (i / 4) + b = omega arith in
        let place : n % 64 ≡ 16 * (i % 4) + j = omega arith in
        ap (λ (w : ℕ). bit w b) (plane_at (turned x) i j hj)
        ∙ turned_bit x n (omega arith) b h
        ∙ (λ k. bit (word_at x (word k)) (place k))

pub rows_turned : (x : List (List ℕ)) (b : ℕ) → b < 64 → rows_in (turned x) b ≡ lane x b
unfolding lane row_at rows_in
rows_turned x b h =
    tab_same_at 8 (λ i. digit (word_at (turned x) (64 * (i / 4) + b)) (i % 4)) (λ i. row_at (get_or x i []) b)
    (λ i hi.
    sym (gather_from 16 (word_at (turned x) (64 * (i / 4) + b)) (16 * (i % 4)))
    ∙ gather_ext 16 (λ j. bit (word_at (turned x) (64 * (i / 4) + b)) (16 * (i % 4) + j)) (λ j. bit (get_or (get_or x i []) j 0) b) (at i hi))
  where
    at : (i : ℕ) → i < 8 → (j : ℕ) → j < 16 → bit (word_at (turned x) (64 * (i / 4) + b)) (16 * (i % 4) + j) ≡ bit (get_or (get_or x i []) j 0) b
    at i hi j hj =
        let n = 64 * (i / 4) + b in
        let k = 16 * (i % 4) + j in
        let word : 64 * (n / 64) + k ≡ 16 * i + j = omega arith in
        let place : n % 64 ≡ b = omega arith in
        turned_bit x n (omega arith) k (omega arith)
        ∙ (λ z. bit (word_at x (word z)) (place z))
        ∙ ap (λ (w : ℕ). bit w b) (sym (plane_at x i j hj))
