-- Blanks, then the digits.
use mathlib.Core.Path.{◌≡◌, sym, ap, ◌∙◌}
use mathlib.Core.List.{List, [], ◌++◌, append-nil}
use Prim.Native.Nat.{ℕ, ◌+◌, ◌-◌}
use native.Mathlib.Omega.{arith}
use lib.ListN.{length, take, drop, replicate, length-append, length-take, length-drop, length-replicate, drop_of_length-le}
use lib.Seq.{take_at, drop_at, length-take-le}
use Rattle.decimal.specs.Decimal.{digits, digits_within}
use Rattle.decimal.proofs.Digits.{digits_within_all}
use Rattle.rows.specs.Row.{right_aligned}
use Rattle.rows.proofs.column.Goals as goal

digits_last : (at n : ℕ) (b w d p : List ℕ) → length b ≡ at → at + length d ≡ length w
    → let x = b ++ drop at w in
    p ≡ d ++ drop (length d) (take (length x - at) (drop at x)) → take at x ++ (p ++ drop (length x - at) (drop at x)) ≡ b ++ d
digits_last at n b w d p e f is =
    let x = b ++ drop at w in
    let behind : drop at x ≡ drop at w = drop_at b (drop at w) at e in
    let long : length x ≡ length w = length-append b (drop at w) ∙ omega (arith, length-drop at w) in
    let none : drop (length x - at) (drop at x) ≡ [] =
    drop_of_length-le (drop at x) {i = length x - at} (rw (behind, length-drop) (omega arith)) in
    let part : drop (length d) (take (length x - at) (drop at x)) ≡ [] =
    drop_of_length-le (take (length x - at) (drop at x)) {i = length d} (rw length-take (omega arith)) in
    (λ i. take_at b (drop at w) at e i ++ (is i ++ none i))
    ∙ ap (λ (l : List ℕ). b ++ l) (append-nil (d ++ drop (length d) (take (length x - at) (drop at x)))
    ∙ ap (λ (l : List ℕ). d ++ l) part ∙ append-nil d)

pub returns : goal.returns
unfolding right_aligned
returns c =
    let a = c.args in
    let w = a.out.now in
    let at = length w - c.count.result in
    let blanks_long : at ≡ length (take at w) = sym (length-take-le at w (omega arith)) in
    let b = c.fill.new.self in
    let x = b ++ drop at w in
    let d = digits a.n in
    let some : at ≡ length w - length d = ap (λ (k : ℕ). length w - k) c.count.ensures in
    let b-is : b ≡ replicate at 0x20 = c.fill.ensures.after (λ y e. e) ∙ ap (λ (k : ℕ). replicate k 0x20) (sym blanks_long) in
    let b-long : length b ≡ at = ap length b-is ∙ length-replicate {A = ℕ} at 0x20 in
    let fit : at + length d ≡ length w = omega (arith, c.count.ensures, c.requires) in
    let part = take (length x - at) (drop at x) in
    let x-long : length x ≡ length w = length-append b (drop at w) ∙ omega (arith, length-drop at w) in
    let part-long : length part ≡ length w - at =
    length-take-le (length x - at) (drop at x) (rw length-drop (omega arith)) ∙ ap (λ (k : ℕ). k - at) x-long in
    let all : digits_within (length part) a.n ≡ d = digits_within_all (length part) a.n (omega (arith, part-long)) in
    digits_last at 0 b w d c.put.new.out b-long fit (c.put.ensures.bytes ∙ ap (λ (s : List ℕ). s ++ drop (length s) part) all)
    ∙ (λ i. (b-is ∙ ap (λ (k : ℕ). replicate k 0x20) some) i ++ d)
