-- The checker's half of demand 3 holds: check accepts exactly the books of the layout.
use Rattle.suites.specs.Answer.{Answer}
use Rattle.std.specs.Prelude.{Ok, Err}
use mathlib.Core.Path.{◌≡◌, refl, sym, ap, ◌∙◌}
use mathlib.Core.Bool.{true}
use mathlib.Core.List.{List, [], ◌∷◌, ◌++◌}
use Prim.Native.Nat.{ℕ, suc, ◌+◌, ◌^◌, ◌<◌}
use native.Mathlib.Nat.{zero-add}
use native.Mathlib.Omega.{arith}
use borrow.Author.Tests.{eqb-true, eq-eqb}
use lib.Dec.{eqb}
use lib.ListN.{length}
use Rattle.bits.specs.Bytes.{Bytes}
use Rattle.bits.proofs.Bytes.{bytes_drop}
use Rattle.suites.specs.declared.refusal.Refusal.TheVariants.{KeyLength}
use Rattle.suites.specs.declared.suite.Suite.{Suite}
use Rattle.suites.specs.Suite.{listed}
use Rattle.limits.proofs.Passed.{unless_passed, unless_passes}
use Rattle.fields.specs.Kind.{Kind}
use Rattle.format.specs.Layout.{units_bytes, close_bytes, book_bytes}
use Rattle.format.specs.Sealings.{opening_fields, unit_sealings, close_sealing, call_total}
use Rattle.fields.specs.Unit.{BookUnit}
use Rattle.parser.specs.Frame.{most_units, Readable}
use Rattle.opening_fields.specs.Opening.{opening_number, opening_suite, opening_bytes, after_opening, opening_tests, check_tests}
use Rattle.opening_fields.proofs.Openings.{opening_here, front_here, front_says, front_rest, front_listed, front_held}
use Rattle.checker.specs.Check.{check_from, after_tests, check_answer_of, CheckAnswer, accepted}
use Rattle.checker.specs.Exact.{book_sealings, IsBook, CheckerHalf}
use Rattle.checker.proofs.From.{bytes_from, sealings_from, from_told, from_here}

tests_accepted : (a : Answer) (w : CheckAnswer) (n t : ℕ) → after_tests a w ≡ accepted n t → (a ≡ Ok tt) × (w ≡ accepted n t)
tests_accepted (Ok tt) w n t e = (refl, e)
tests_accepted (Err why) w n t e = let z : ◌≡◌ {A = ℕ} 0 1 = cc in absurd (omega arith)

-- behind opening fields as a writer makes them the tests before the frames are done, whatever is done with the frames
pub opens : (suite : Suite) (key : List ℕ) (number : ℕ) (r : List ℕ) → listed suite.cipher suite.steps ≡ true → length key ≡ 16 → number < 2 ^ 64
    → (frames : List ℕ → List ℕ → CheckAnswer) → let x = opening_fields suite number ++ r in
    after_tests (check_tests (length key) x) (frames (opening_bytes x) (after_opening x)) ≡ frames (opening_fields suite number) r
unfolding check_tests
opens suite key number r ok long fits frames =
    let x : List ℕ = opening_fields suite number ++ r in
    let h = opening_here suite number r fits ok in
    let tests : check_tests (length key) x ≡ (Ok tt) =
    unless_passes (eqb (length key) 16) KeyLength (opening_tests x) (eq-eqb (length key) 16 long) h.0 in
    λ j. after_tests (tests j) (frames (front_here suite number r j) (h.3 j))

-- a book is its opening fields, then its frames
pub book_is : (kind : Kind) (suite : Suite) (key : List ℕ) (number : ℕ) (us : List BookUnit)
    → book_bytes kind suite key number us ≡ opening_fields suite number ++ bytes_from kind suite key number 0 us
unfolding book_bytes
book_is kind suite key number us =
    ap (λ (n : ℕ). opening_fields suite number ++ (units_bytes kind suite key number 0 us ++ close_bytes kind suite key number n)) (sym (zero-add (length us)))

sealings_are : (kind : Kind) (suite : Suite) (number : ℕ) (us : List BookUnit) → book_sealings kind suite number us ≡ sealings_from kind suite number 0 us
unfolding book_sealings
sealings_are kind suite number us = ap (λ (n : ℕ). unit_sealings kind suite number 0 us ++ close_sealing kind suite number n ∷ []) (sym (zero-add (length us)))

module _ (kind : Kind) (readable : Readable kind) (key s : List ℕ) (n t : ℕ) where
  bytes_rest : Bytes s → Bytes (after_opening s)
  unfolding after_opening
  bytes_rest b = bytes_drop 16 s b

  accepted-is : Bytes key → Bytes s → check_answer_of kind key s ≡ accepted n t → IsBook kind key s n t
  unfolding check_answer_of check_tests
  accepted-is key_bytes b e =
      let o = opening_bytes s in
      let suite = opening_suite o in
      let number = opening_number o in
      let r = after_opening s in
      let both = tests_accepted (check_tests (length key) s) (check_from kind key o (suc most_units) 0 0 r) n t e in
      let tests = unless_passed (eqb (length key) 16) KeyLength (opening_tests s) both.0 in
      let long = eqb-true (length key) 16 tests.0 in
      let held = front_held s tests.1 b in
      let w = from_told kind key o held.1 long key_bytes (suc most_units) 0 0 r n t (omega arith) (bytes_rest b) both.1 in
      let us = w.units in
      record {
        suite = suite;
        number = number;
        units = us;
        bookable =
            record {
              listed_suite = front_listed s tests.1;
              key_long = long;
              key_bytes = key_bytes;
              number_fits = held.0;
              units = w.allowed;
              few = omega arith;
            };
        bytes = book_is kind suite key number us ∙ (λ i. sym held.1 i ++ sym w.bytes i) ∙ front_rest s;
        count = omega arith;
        total = ap call_total (sealings_are kind suite number us) ∙ omega arith;
      }

  is-accepted : IsBook kind key s n t → check_answer_of kind key s ≡ accepted n t
  unfolding check_answer_of
  is-accepted i =
      let suite = i.suite in
      let number = i.number in
      let us = i.units in
      let book = i.bookable in
      let r : List ℕ = bytes_from kind suite key number 0 us in
      let f : List ℕ = opening_fields suite number in
      let says = front_says suite number book.number_fits in
      let c : 0 + length us ≡ n = zero-add (length us) ∙ i.count in
      let calls : 0 + call_total (sealings_from kind suite number 0 us) ≡ t =
      zero-add (call_total (sealings_from kind suite number 0 us)) ∙ ap call_total (sym (sealings_are kind suite number us)) ∙ i.total in
      ap (check_answer_of kind key) (sym i.bytes ∙ book_is kind suite key number us)
      ∙ opens suite key number r book.listed_suite book.key_long book.number_fits (λ o q. check_from kind key o (suc most_units) 0 0 q)
      ∙ (λ j. check_from kind key f (suc most_units) 0 0 (bytes_from kind (sym says.0 j) key (sym says.1 j) 0 us))
      ∙ from_here kind key f (λ j. opening_fields (sym says.0 j) (sym says.1 j)) book.key_long book.key_bytes readable.well_formed
      (suc most_units) 0 0 us book.units
      (omega arith) (omega arith) (omega arith)
      ∙ (λ j. accepted (c j) (0 + call_total (sealings_from kind (says.0 j) (says.1 j) 0 us)))
      ∙ (λ j. accepted n (calls j))

pub checker_half : (kind : Kind) → Readable kind → CheckerHalf kind
checker_half kind readable = record { accepted = accepted-is kind readable; accepts = is-accepted kind readable }
