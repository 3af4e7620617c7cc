-- Blocks that are put one behind the other.
use mathlib.Core.Path.{◌≡◌, sym, ap, ◌∙◌}
use mathlib.Core.List.{List, [], ◌∷◌, ◌++◌, append_assoc}
use Prim.Native.Nat.{ℕ, suc, ◌+◌, ◌*◌, ◌/◌, ◌%◌, ◌≤◌}
use native.Mathlib.Nat.{le_of_eq}
use native.Mathlib.Numerals.{add-one}
use native.Mathlib.Omega.{arith}
use lib.ListN.{length, get_or, take, drop, length-append}
use lib.Seq.{paste, paste-zero, length-paste, take_all, take-paste, drop-paste, drop-drop}
use Rattle.blockwise.specs.Blocks.{strung}
use Rattle.blockwise.proofs.Each.{strung_whole}
use Rattle.state.specs.Block.{bytes}
use Rattle.state.specs.State.{rows_of}
use Rattle.state.proofs.Trips.{bytes_long}
use Rattle.transposition.specs.Levels.{word_at}
use Rattle.planes.specs.Loaded.{rows_in}

pub rows_sixteen : (y : List (List ℕ)) (b : ℕ) → length (bytes (rows_in y b)) ≡ 16
unfolding rows_in
rows_sixteen y b = bytes_long (rows_in y b)

-- the state in words b and 64 + b
pub state_rows : (y : List (List ℕ)) (b : ℕ)
    → rows_of (record { low = get_or (get_or y (b / 16) []) (b % 16) 0; high = get_or (get_or y (b / 16 + 4) []) (b % 16) 0 }) ≡ rows_in y b
unfolding rows_of rows_in
state_rows y b =
    let row : b / 16 + 4 ≡ (64 + b) / 16 = omega arith in
    let place : b % 16 ≡ (64 + b) % 16 = omega arith in
    let high : get_or (get_or y (b / 16 + 4) []) (b % 16) 0 ≡ word_at y (64 + b) = (λ k. get_or (get_or y (row k) []) (place k) 0) in
    let zero : b ≡ 0 + b = omega arith in
    (λ k. rows_of (record { low = word_at y (zero k); high = high k }))
    ∙ (λ k. one (word_at y (0 + b)) k ∷ rest (word_at y (0 + b)) (one (word_at y (64 + b)) k ∷ rest (word_at y (64 + b)) []))
  where
    one : (w : ℕ) → w % 65536 ≡ w / 1 % 65536
    one w = omega arith

    -- the three rows behind the first, and what follows
    rest : ℕ → List ℕ → List ℕ
    rest w l = (w / 65536 % 65536) ∷ (w / 4294967296 % 65536) ∷ (w / 281474976710656 % 65536) ∷ l

-- one block more
pub paste_strung : (d : List ℕ) (at b : ℕ) (g : ℕ → List ℕ) → ((i : ℕ) → length (g i) ≡ 16) → at + 16 * b + 16 ≤ length d
    → paste (paste d at (strung b g) (16 * b)) (at + 16 * b) (g b) 16 ≡ paste d at (strung (b + 1) g) (16 * (b + 1))
unfolding strung
paste_strung d at b g long room =
    (λ i. (front i ++ last i) ++ rest i)
    ∙ ap (λ (l : List ℕ). l ++ drop (at + 16 * suc b) d) (append_assoc (take at d) (strung b g) (g b) ∙ ap (λ (l : List ℕ). take at d ++ l) (sym all))
    ∙ ap (λ (n : ℕ). paste d at (strung n g) (16 * n)) (sym (add-one b))
  where
    before : length (strung b g) ≡ 16 * b
    before = strung_whole b g (λ i h. long i)

    front : take (at + 16 * b) (paste d at (strung b g) (16 * b)) ≡ take at d ++ strung b g
    front =
        take-paste d at (strung b g) (16 * b) (omega arith) (le_of_eq (sym before))
        ∙ ap (λ (l : List ℕ). take at d ++ l) (take_all (16 * b) (strung b g) (le_of_eq before))

    last : take 16 (g b) ≡ g b
    last = take_all 16 (g b) (le_of_eq (long b))

    rest : drop (at + 16 * b + 16) (paste d at (strung b g) (16 * b)) ≡ drop (at + 16 * suc b) d
    rest =
        let place : at + 16 * b + 16 ≡ at + 16 * suc b = omega arith in
        sym (drop-drop 16 (at + 16 * b) (paste d at (strung b g) (16 * b)))
        ∙ ap (drop 16) (drop-paste d at (strung b g) (16 * b) (omega arith) (le_of_eq (sym before)))
        ∙ drop-drop 16 (at + 16 * b) d
        ∙ ap (λ (n : ℕ). drop n d) place

    all : take (16 * suc b) (strung b g ++ g b) ≡ strung b g ++ g b
    all = take_all (16 * suc b) (strung b g ++ g b) (le_of_eq (length-append (strung b g) (g b) ∙ omega (arith, before, long b)))

pub paste_kept : (d : List ℕ) (at b : ℕ) (g : ℕ → List ℕ) → ((i : ℕ) → length (g i) ≡ 16) → at + 16 * b ≤ length d
    → length (paste d at (strung b g) (16 * b)) ≡ length d
paste_kept d at b g long room = length-paste d at (strung b g) (16 * b) room (le_of_eq (sym (strung_whole b g (λ i h. long i))))

pub paste_none : (d : List ℕ) (at : ℕ) (g : ℕ → List ℕ) → d ≡ paste d at (strung 0 g) (16 * 0)
paste_none d at g = paste-zero d at (strung 0 g)
