-- Columns and rows: their lengths, and a row put together.
use mathlib.Core.Path.{◌≡◌, refl, sym, ◌∙◌}
use mathlib.Core.List.{List, [], ◌∷◌, ◌++◌}
use Prim.Native.Nat.{ℕ, ◌-◌, ◌≤◌}
use native.Mathlib.Omega.{arith}
use lib.ListN.{length, get_or, set, take, drop, replicate, length-append, length-replicate}
use Rattle.bits.specs.Table.{tab}
use Rattle.bits.proofs.Lists.{tab_get_or}
use Rattle.decimal.specs.Decimal.{digits}
use Rattle.decimal.proofs.Digits.{digits_fit}
use Rattle.rows.specs.Row.{right_aligned, row_of}

pub length_right_aligned : (w n : ℕ) → length (digits n) ≤ w → length (right_aligned w n) ≡ w
unfolding right_aligned
length_right_aligned w n h =
    length-append (replicate (w - length (digits n)) 0x20) (digits n)
    ∙ omega (arith, length-replicate {A = ℕ} (w - length (digits n)) 0x20)

-- numbers that have room
pub length_fits : (len : ℕ) → len ≤ 4096 → length (digits len) ≤ 5
length_fits len h = digits_fit 5 len (omega arith) (omega arith)

pub score_fits : (score : ℕ) → score ≤ 1000 → length (digits score) ≤ 4
score_fits score h = digits_fit 4 score (omega arith) (omega arith)

-- a row has 12 bytes
pub length_row : (len score : ℕ) → len ≤ 4096 → score ≤ 1000 → length (row_of len score) ≡ 12
unfolding row_of
length_row len score h k =
    let a = right_aligned 5 len in
    let b = right_aligned 4 score in
    length-append a (0x20 ∷ 0x20 ∷ (b ++ 0x0A ∷ []))
    ∙ omega (arith, length-append b (0x0A ∷ []), length_right_aligned 5 len (length_fits len h), length_right_aligned 4 score (score_fits score k))

-- what is left of the room when the first column is put, then two blanks, the second column, and a line feed
abbrev pub blanked : List ℕ → List ℕ
blanked x = set (set x 5 0x20) 6 0x20

abbrev pub ended : List ℕ → List ℕ → List ℕ
ended x b = set (take 7 (blanked x) ++ (b ++ drop 4 (drop 7 (blanked x)))) 11 0x0A

made : (f g h : ℕ → ℕ) → ended (tab 5 f ++ tab 7 g) (tab 4 h) ≡ tab 5 f ++ (0x20 ∷ 0x20 ∷ (tab 4 h ++ 0x0A ∷ []))
made f g h = refl

pub row_made : (a d b : List ℕ) → length a ≡ 5 → length d ≡ 7 → length b ≡ 4 → ended (a ++ d) b ≡ a ++ (0x20 ∷ 0x20 ∷ (b ++ 0x0A ∷ []))
row_made a d b p q r =
    let A : a ≡ tab 5 (λ i. get_or a i 0) = sym (tab_get_or 5 a p) in
    let D : d ≡ tab 7 (λ i. get_or d i 0) = sym (tab_get_or 7 d q) in
    let B : b ≡ tab 4 (λ i. get_or b i 0) = sym (tab_get_or 4 b r) in
    (λ i. ended (A i ++ D i) (B i))
    ∙ made (λ i. get_or a i 0) (λ i. get_or d i 0) (λ i. get_or b i 0)
    ∙ (λ i. sym A i ++ (0x20 ∷ 0x20 ∷ (sym B i ++ 0x0A ∷ [])))
