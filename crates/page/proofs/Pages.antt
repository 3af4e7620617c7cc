-- The units of a book that check accepts, and the rows of their sources.
use Rattle.suites.specs.Answer.{Answer}
use Rattle.parser.specs.FrameAnswer.{FrameAnswer}
use Rattle.parser.specs.declared.frame.Frame.TheVariants.{Close, Unit}
use Rattle.std.specs.Prelude.{Ok, Err}
use mathlib.Core.Path.{◌≡◌, refl, sym, ap, ◌∙◌}
use mathlib.Core.Bool.{Bool}
use mathlib.Core.List.{List, ◌++◌, append_assoc}
use Prim.Native.Nat.{ℕ, zero, suc, ◌+◌, ◌-◌, ◌*◌, ◌≤◌, ◌<◌}
use native.Mathlib.Omega.{arith}
use borrow.Author.Tests.{le-leb, lt-leb}
use borrow.Rule.Slice.PartMut.{same_len_mid, mid_len, drop_put}
use lib.Dec.{leb}
use lib.ListN.{length, take, drop, length-append, get_or}
use lib.Seq.{take_at, length-take-le}
use Rattle.suites.specs.declared.refusal.Refusal.{Refusal}
use Rattle.suites.specs.declared.refusal.Refusal.TheVariants.{OutputTooShort}
use Rattle.limits.specs.Tests.{unless}
use Rattle.sealing.specs.Seal.{written}
use Rattle.fields.specs.Kind.{Kind}
use Rattle.kinds.specs.declared.Kind.{Kind as BookKind}
use Rattle.kinds.specs.Kind.{kind_of, book_kind}
use Rattle.kinds.specs.Lengths.{unit_calls, close_calls}
use Rattle.parser.specs.Frame.{most_units, after_unit, frame_at}
use Rattle.opening_fields.specs.Opening.{opening_bytes, after_opening, check_tests}
use Rattle.parser.proofs.Frames.{UnitTold, unit_length_lem}
use Rattle.seals.specs.Parts.{Under}
use Rattle.seals.specs.Seal.{unit_seal_tests, close_seal_tests}
use Rattle.seals.proofs.Tested.{tested_under}
use Rattle.checker.specs.Check.{check_told, checked_at, check_from, after_tests, check_answer_of, check_answer, CheckAnswer, accepted}
use Rattle.checker.proofs.From.{from_step}
use Rattle.checker.proofs.Sealed.{unit_sealed}
use Rattle.checker.proofs.Turns.{unit_there}
use Rattle.score.specs.Score.{score}
use Rattle.score.proofs.Laws.{score_le}
use Rattle.rows.proofs.Rows.{length_row}
use Rattle.sources.proofs.Opened.{source_within, source_long}
use Rattle.page.specs.Page.{row, rows, ciphertext_length, source_at, sources_from, page_by, page_bytes}
use Rattle.page.specs.Page.{outcome_by, page_outcome, page_report, page_answer, page_buffer}
use Rattle.page.specs.Units.{UnitThere, Units, none, more}

module _ (kind : Kind) (key o : List ℕ) where
  -- what was checked as a unit is one of the length that its field states
  pub there : (n m : ℕ) (s : List ℕ) → checked_at kind key o n s ≡ Ok (Unit m) → m ≡ ciphertext_length kind s
  unfolding checked_at
  there n m s e =
      sym (unit_length_lem kind n m s (unit_sealed (λ (k : ℕ). unit_seal_tests kind key o n k s) (close_seal_tests kind key o n s) (frame_at kind n s) m e).0)

  pub told_there : (n : ℕ) (s : List ℕ) → UnitThere kind key o n s → UnitTold kind n (ciphertext_length kind s) s
  told_there n s u = unit_there kind key o n (ciphertext_length kind s) s u

  none_left : (n total : ℕ) (s : List ℕ) (count calls : ℕ) → check_from kind key o 0 n total s ≡ accepted count calls → ⊥
  unfolding check_from
  none_left n total s count calls e = let z : ◌≡◌ {A = ℕ} 0 1 = cc in omega arith

  -- frames that are accepted are units, as many as are counted, and a close
  pub units_from : (left n total : ℕ) (s : List ℕ) (count calls : ℕ) → check_from kind key o left n total s ≡ accepted count calls
      → (n ≤ count) × Units kind key o (count - n) n s
  units_from zero n total s count calls e = absurd (none_left n total s count calls e)
  units_from (suc left) n total s count calls e =
      by (λ (m : ℕ). units_from left (suc n) (total + unit_calls kind m) (after_unit kind m s) count calls) (checked_at kind key o n s) refl
    where
      by : ((m : ℕ) → check_from kind key o left (suc n) (total + unit_calls kind m) (after_unit kind m s) ≡ accepted count calls
          → (suc n ≤ count) × Units kind key o (count - suc n) (suc n) (after_unit kind m s))
          → (f : FrameAnswer) → checked_at kind key o n s ≡ f → (n ≤ count) × Units kind key o (count - n) n s
      by further (Ok (Unit m)) q =
          let rest = further m (sym (from_step kind key o left n total s (Ok (Unit m)) q) ∙ e) in
          let is = there n m s q in
          let one : suc (count - suc n) ≡ count - n = omega (arith, rest.0) in
          (omega (arith, rest.0), rw one at (more (q ∙ ap (λ (l : ℕ). Ok (Unit l)) is) (rw is at rest.1)))
      by further (Ok Close) q =
          let same : accepted n (total + close_calls kind) ≡ accepted count calls = sym (from_step kind key o left n total s (Ok Close) q) ∙ e in
          let all : n ≡ count = ap (λ (a : CheckAnswer). get_or (check_told a).values 0 0) same in
          let left-none : count - n ≡ 0 = omega arith in
          (omega arith, rw left-none none)
      by further (Err why) q =
          let same : Err why ≡ accepted count calls = sym (from_step kind key o left n total s (Err why) q) ∙ e in
          let z : ◌≡◌ {A = ℕ} 0 1 = cc in
          absurd (omega arith)

-- of a book that is accepted: its tests are passed, and so many units stand behind its opening fields
pub units_accepted : (key s : List ℕ) (count calls : ℕ) → check_answer key s ≡ accepted count calls
    → (16 ≤ length s) × Under key (opening_bytes s) × Units (kind_of (book_kind s)) key (opening_bytes s) count 0 (after_opening s)
unfolding check_answer check_answer_of
units_accepted key s count calls e = by (check_tests (length key) s) refl
  where
    from : CheckAnswer
    from = check_from (kind_of (book_kind s)) key (opening_bytes s) (suc most_units) 0 0 (after_opening s)

    by : (t : Answer) → check_tests (length key) s ≡ t
        → (16 ≤ length s) × Under key (opening_bytes s) × Units (kind_of (book_kind s)) key (opening_bytes s) count 0 (after_opening s)
    by (Ok tt) q =
        let tested = tested_under key s q in
        let frames : from ≡ accepted count calls = sym (ap (λ (t : Answer). after_tests t from) q) ∙ e in
        let all : count - 0 ≡ count = omega arith in
        (tested.0, tested.1, rw all at (units_from (kind_of (book_kind s)) key (opening_bytes s) (suc most_units) 0 0 (after_opening s) count calls frames).1)
    by (Err why) q =
        let never : Err why ≡ accepted count calls = sym (ap (λ (t : Answer). after_tests t from) q) ∙ e in
        let z : ◌≡◌ {A = ℕ} 0 1 = cc in
        absurd (omega arith)

-- rows have 12 bytes each
module _ (k : BookKind) (key o : List ℕ) (under : Under key o) (typed : List ℕ) where
  pub row_long : (n : ℕ) (s : List ℕ) → UnitThere (kind_of k) key o n s → length (row typed (source_at (kind_of k) key o n s)) ≡ 12
  unfolding row source_at
  row_long n s u =
      let m = ciphertext_length (kind_of k) s in
      let source = source_at (kind_of k) key o n s in
      length_row (length source) (score source typed)
      (omega (arith, source_long k key o under n m s u, (source_within k key o under n m s u).1))
      (score_le source typed)

  pub rows_long : {count n : ℕ} {s : List ℕ} → Units (kind_of k) key o count n s → length (rows typed (sources_from (kind_of k) key o count n s)) ≡ 12 * count
  unfolding rows sources_from
  rows_long none = refl
  rows_long {count = suc count} {n = n} {s = s} (more u us) =
      let rest = sources_from (kind_of k) key o count (suc n) (after_unit (kind_of k) (ciphertext_length (kind_of k) s) s) in
      length-append (row typed (source_at (kind_of k) key o n s)) (rows typed rest)
      ∙ omega (arith, row_long n s u, rows_long us)

-- those of a book that is accepted, and its page: 12 bytes a unit
pub accepted_long : (key s typed : List ℕ) (count calls : ℕ) → check_answer key s ≡ accepted count calls
    → length (rows typed (sources_from (kind_of (book_kind s)) key (opening_bytes s) count 0 (after_opening s))) ≡ 12 * count
accepted_long key s typed count calls e =
    let all = units_accepted key s count calls e in
    rows_long (book_kind s) key (opening_bytes s) all.1 typed all.2

pub page_long : (key s typed : List ℕ) (count calls : ℕ) → check_answer key s ≡ accepted count calls → length (page_bytes key s typed) ≡ 12 * count
unfolding page_bytes page_by
page_long key s typed count calls e =
    ap (λ (a : CheckAnswer). length (page_by a key s typed)) e ∙ accepted_long key s typed count calls e

-- one row more: it is put behind those before it, and what lies behind it stays
abbrev pub with_line : ℕ → List ℕ → List ℕ → List ℕ
with_line at out line = take at out ++ (line ++ drop (at + 12 - at) (drop at out))

module _ (at : ℕ) (out line : List ℕ) (long : length line ≡ 12) (room : at + 12 ≤ length out) where
  pub line_front : take (at + 12) (with_line at out line) ≡ take at out ++ line
  line_front =
      let k : at + 12 - at ≡ 12 = omega arith in
      let a : length (take at out) ≡ at = length-take-le at out (omega arith) in
      ap (take (at + 12)) (sym (append_assoc (take at out) line (drop (at + 12 - at) (drop at out))))
      ∙ take_at (take at out ++ line) (drop (at + 12 - at) (drop at out)) (at + 12) (length-append (take at out) line ∙ omega arith)

  pub line_back : drop (at + 12) (with_line at out line) ≡ drop (at + 12) out
  line_back = drop_put at (at + 12) out line (omega arith) room (long ∙ omega arith)

  pub line_long : length (with_line at out line) ≡ length out
  line_long = same_len_mid at (at + 12 - at) out line (long ∙ omega (arith, mid_len at (at + 12) out room))

-- what is answered, and left in the buffer, for each answer of check
module _ (key s typed out : List ℕ) where
  pub page_refused : (why : Refusal) → check_answer key s ≡ Err why
      → (Err why ≡ page_answer key s typed out) × (out ≡ page_buffer key s typed out)
  unfolding page_answer page_buffer page_outcome
  page_refused why e =
      let o : Answer = outcome_by (check_answer key s) (length (page_bytes key s typed)) (length out) in
      let is : Err why ≡ o = ap (λ (a : CheckAnswer). outcome_by a (length (page_bytes key s typed)) (length out)) (sym e) in
      (ap (λ (a : Answer). page_report a (length (page_bytes key s typed))) is, ap (λ (a : Answer). written a (page_bytes key s typed) out) is)

  module _ (count calls : ℕ) (e : check_answer key s ≡ accepted count calls) where
    outcome-is : outcome_by (check_answer key s) (length (page_bytes key s typed)) (length out)
        ≡ unless (leb (12 * count) (length out)) OutputTooShort (Ok tt)
    outcome-is = λ i. outcome_by (e i) (page_long key s typed count calls e i) (length out)

    pub page_short : length out < 12 * count → (Err OutputTooShort ≡ page_answer key s typed out) × (out ≡ page_buffer key s typed out)
    unfolding page_answer page_buffer page_outcome
    page_short h =
        let is : Err OutputTooShort ≡ outcome_by (check_answer key s) (length (page_bytes key s typed)) (length out) =
        ap (λ (v : Bool). unless v OutputTooShort (Ok tt)) (sym (lt-leb (12 * count) (length out) h)) ∙ sym outcome-is in
        (ap (λ (a : Answer). page_report a (length (page_bytes key s typed))) is, ap (λ (a : Answer). written a (page_bytes key s typed) out) is)

    pub page_written : 12 * count ≤ length out
        → (Ok (12 * count) ≡ page_answer key s typed out)
        × (rows typed (sources_from (kind_of (book_kind s)) key (opening_bytes s) count 0 (after_opening s)) ++ drop (12 * count) out ≡ page_buffer key s typed out)
    unfolding page_answer page_buffer page_outcome page_bytes page_by
    page_written h =
        let is : (Ok tt) ≡ outcome_by (check_answer key s) (length (page_bytes key s typed)) (length out) =
        ap (λ (v : Bool). unless v OutputTooShort (Ok tt)) (sym (le-leb (12 * count) (length out) h)) ∙ sym outcome-is in
        let long = page_long key s typed count calls e in
        let bytes : rows typed (sources_from (kind_of (book_kind s)) key (opening_bytes s) count 0 (after_opening s)) ≡ page_bytes key s typed =
        ap (λ (a : CheckAnswer). page_by a key s typed) (sym e) in (
          (λ i. page_report (is i) (sym long i)),
          (λ i. bytes i ++ drop (sym long i) out) ∙ ap (λ (a : Answer). written a (page_bytes key s typed) out) is,
        )
