-- The two columns, blanks between them, and a line feed.
use mathlib.Core.Path.{◌≡◌, sym, ap, ◌∙◌}
use mathlib.Core.List.{List, [], ◌∷◌, ◌++◌}
use Prim.Native.Nat.{ℕ, ◌≤◌}
use native.Mathlib.Omega.{arith}
use lib.ListN.{length, take, drop, set, length-append, length-drop, length-set}
use lib.Seq.{length-take-le}
use Rattle.decimal.specs.Decimal.{digits}
use Rattle.rows.specs.Row.{right_aligned, row_of}
use Rattle.rows.proofs.Rows.{length_right_aligned, length_fits, score_fits, blanked, row_made}
use Rattle.rows.proofs.put.Goals as goal

five : (w : List ℕ) → length w ≡ 12 → ◌≡◌ {A = ℕ} 5 (length (take 5 w))
five w h = sym (length-take-le 5 w (omega arith))

pub column-requires : goal.column-requires
column-requires c =
    omega (arith, length_fits c.args.len c.requires.0, five c.args.out.now c.requires.2)

-- what the first column leaves
first_long : (w b : List ℕ) (len : ℕ) → length w ≡ 12 → len ≤ 4096 → b ≡ right_aligned (length (take 5 w)) len → length b ≡ 5
first_long w b len h k e =
    ap length (e ∙ ap (λ (k : ℕ). right_aligned k len) (sym (five w h))) ∙ length_right_aligned 5 len (length_fits len k)

-- where the second column stands
four : (x : List ℕ) → length x ≡ 12 → length (take 4 (drop 7 (blanked x))) ≡ 4
four x h =
    let long : length (blanked x) ≡ 12 = length-set (set x 5 0x20) 6 0x20 ∙ length-set x 5 0x20 ∙ h in
    length-take-le 4 (drop 7 (blanked x)) (rw length-drop (omega (arith, long)))

x_long : (w b : List ℕ) → length w ≡ 12 → length b ≡ 5 → length (b ++ drop 5 w) ≡ 12
x_long w b h e = length-append b (drop 5 w) ∙ omega (arith, length-drop 5 w)

pub column-requires-2 : goal.column-requires-2
column-requires-2 c =
    let p = c.requires in
    let w = c.args.out.now in
    let b = c.column.new.out in
    let long : length b ≡ 5 = first_long w b c.args.len p.2 p.0 c.column.ensures in
    omega (arith, ap (λ k. length (digits k)) c.from.ensures, score_fits c.args.score p.1, four (b ++ drop 5 w) (x_long w b p.2 long))

pub returns : goal.returns
unfolding row_of
returns c =
    let p = c.requires in
    let w = c.args.out.now in
    let b = c.column.new.out in
    let first : b ≡ right_aligned 5 c.args.len = c.column.ensures ∙ ap (λ (k : ℕ). right_aligned k c.args.len) (sym (five w p.2)) in
    let long : length b ≡ 5 = first_long w b c.args.len p.2 p.0 c.column.ensures in
    let second : c.column-2.new.out ≡ right_aligned 4 c.args.score =
    c.column-2.ensures
    ∙ (λ i. right_aligned (four (b ++ drop 5 w) (x_long w b p.2 long) i) (c.from.ensures i)) in
    let second_long : length c.column-2.new.out ≡ 4 = ap length second ∙ length_right_aligned 4 c.args.score (score_fits c.args.score p.1) in
    row_made b (drop 5 w) c.column-2.new.out long (length-drop 5 w ∙ omega arith) second_long
    ∙ (λ i. first i ++ (0x20 ∷ 0x20 ∷ (second i ++ 0x0A ∷ [])))
