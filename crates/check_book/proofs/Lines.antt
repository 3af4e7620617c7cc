-- Strings put one behind the other, and laws of the lines.
use Rattle.std.specs.Prelude.{Ok, Err}
use mathlib.Core.Path.{◌≡◌, refl, sym, ap, ◌∙◌}
use mathlib.Core.Bool.{Bool, true, false, cond}
use mathlib.Core.List.{List, ◌++◌, append_assoc, append-nil}
use Prim.Native.Nat.{ℕ, ◌+◌, ◌-◌, ◌^◌, ◌≤◌, ◌<◌}
use native.Mathlib.Omega.{arith}
use borrow.Author.Tests.{le-leb, ne_eqb}
use lib.Dec.{leb}
use lib.ListN.{length, take, drop, length-append}
use lib.Seq.{take_all, take_at, drop_at, drop-drop}
use Rattle.decimal.specs.Decimal.{digits_in, digits, AtStart}
use Rattle.decimal.proofs.Digits.{digits_u64}
use Rattle.suites.specs.Refusal.{number}
use Rattle.suites.specs.declared.refusal.Refusal.TheVariants.{TagDiffers}
use Rattle.bits.proofs.Lists.{part_rest}
use Rattle.sums.proofs.Sums.{part_none}
use Rattle.opening_fields.specs.Opening.{check_tests}
use Rattle.checker.specs.Check.{check_answer, check_answer_of, CheckAnswer, accepted}
use Rattle.check_book.specs.Behind.{Behind}
use Rattle.decimal.specs.Ascii.{ascii}
use Rattle.check_book.specs.Line.{answer_line, line}

-- s was put at the start of the part of d from a place on
pub at_place : (at : ℕ) (s d y : List ℕ) (r : ℕ) → y ≡ s ++ drop (length s) (take (length d - at) (drop at d)) → r ≡ at + length s
    → Behind at s d (take at d ++ (y ++ drop (length d - at) (drop at d))) r
at_place at s d y r put place =
    let here : y ≡ s ++ drop (at + length s) d =
    put ∙ ap (λ (x : List ℕ). s ++ drop (length s) x) (part_rest at d) ∙ ap (λ (x : List ℕ). s ++ x) (drop-drop (length s) at d) in
    record {
      place = place;
      bytes = ap (λ (x : List ℕ). take at d ++ (y ++ x)) (part_none at d) ∙ ap (λ (x : List ℕ). take at d ++ x) (append-nil y ∙ here);
    }

-- what is put first
pub first : {s d e : List ℕ} {r : ℕ} → Behind 0 s d e r → AtStart s d e r
first {s} {d} b =
    let none : 0 + length s ≡ length s = omega arith in
    record { count = b.place ∙ none; bytes = b.bytes ∙ ap (λ (n : ℕ). s ++ drop n d) none }

-- and behind it
pub then : {p s d x e : List ℕ} {at r : ℕ} → AtStart p d x at → Behind at s x e r → AtStart (p ++ s) d e r
then {p} {s} {d} {x} {e} {at} w b =
    let long : length (p ++ s) ≡ length p + length s = length-append p s in
    let front : take at x ≡ p = ap (take at) w.bytes ∙ take_at p (drop (length p) d) at (sym w.count) in
    let rest : drop (at + length s) x ≡ drop (length (p ++ s)) d =
    sym (drop-drop (length s) at x)
    ∙ ap (drop (length s)) (ap (drop at) w.bytes ∙ drop_at p (drop (length p) d) at (sym w.count))
    ∙ drop-drop (length s) (length p) d
    ∙ ap (λ (n : ℕ). drop n d) (sym long) in
    record {
      count = omega (arith, w.count, b.place);
      bytes = b.bytes ∙ (λ i. front i ++ (s ++ rest i)) ∙ sym (append_assoc p s (drop (length (p ++ s)) d));
    }

-- what was written is a part of the output
pub within : {s d e : List ℕ} {r : ℕ} → AtStart s d e r → r ≤ length e
within {s} {d} w = omega (arith, w.count, ap length w.bytes ∙ length-append s (drop (length s) d))

-- the lines that the scope states

pub line_ok : answer_line (accepted 1 7) ≡ ascii "ok units=1 calls=7\n"
unfolding digits digits_in
line_ok = refl

pub line_refused : answer_line (Err TagDiffers) ≡ ascii "refused 8\n"
unfolding digits digits_in
line_refused = refl

-- "16 key bytes (fewer give refusal 2)"
pub line_short_key : (input : List ℕ) → length input < 16 → line input ≡ ascii "refused 2\n"
unfolding line check_answer check_answer_of check_tests digits digits_in
line_short_key input h =
    rw (le-leb (length input) 65520 (omega arith), take_all 16 input (omega arith), ne_eqb (length input) 16 (omega arith))

-- an answer's numbers are below 2 ^ 64, as those of the code are
abbrev Fit : CheckAnswer → Type 0
Fit (Ok t) = (t.units < 2 ^ 64) × (t.calls < 2 ^ 64)
Fit (Err why) = number why < 2 ^ 64

-- then a line has at most 57 bytes
pub line_length : (input : List ℕ) → Fit (check_answer (take 16 input) (drop 16 input)) → length (line input) ≤ 57
unfolding line
line_length input fit = by (leb (length input) 65520)
  where
    of : (a : CheckAnswer) → Fit a → length (answer_line a) ≤ 57
    of (Ok t) f = simp length-append (omega (arith, digits_u64 t.units f.0, digits_u64 t.calls f.1))
    of (Err why) f = simp length-append (omega (arith, digits_u64 (number why) f))

    by : (b : Bool) → length (cond b (answer_line (check_answer (take 16 input) (drop 16 input))) (ascii "too long\n")) ≤ 57
    by true = of (check_answer (take 16 input) (drop 16 input)) fit
    by false = omega arith
