-- Check where units are many: kinds whose numbers end below the reader's limit, and one whose numbers go on.
use Rattle.suites.specs.Answer.{Answer}
use Rattle.parser.specs.FrameAnswer.{FrameAnswer}
use Rattle.parser.specs.declared.frame.Frame.TheVariants.{Close, Unit}
use Rattle.std.specs.Prelude.{Ok, Err}
use mathlib.Core.Path.{◌≡◌, refl, sym, ap, subst, ◌∙◌}
use mathlib.Core.Bool.{Bool, true, false, ◌&&◌, cond, and-eq-true_iff}
use mathlib.Core.List.{List, [], ◌∷◌, ◌++◌, append_assoc}
use mathlib.Core.Logic.{◌≢◌}
use Prim.Native.Nat.{ℕ, zero, suc, ◌+◌, ◌-◌, ◌^◌, ◌≤◌, ◌<◌}
use native.Mathlib.Nat.{add-zero, add-suc}
use native.Mathlib.Omega.{arith}
use borrow.Author.Tests.{ne_eqb, lt-ltb, ltb-true, ltb-false}
use lib.Dec.{eqb, ltb}
use lib.ListN.{length}
use Rattle.bits.specs.Bytes.{Bytes}
use Rattle.bits.proofs.Bytes.{bytes_drop}
use Rattle.suites.specs.declared.refusal.Refusal.{Refusal}
use Rattle.suites.specs.declared.refusal.Refusal.TheVariants.{
  SuiteNotListed,
  KeyLength,
  TagDiffers,
  LanguagesNotAllowed,
  SegmentLength,
  TooManyUnits,
  FieldMalformed,
  NumberOutOfOrder,
}
use Rattle.suites.specs.declared.suite.Suite.{Suite}
use Rattle.suites.specs.Refusal.{number}
use Rattle.suites.specs.Suite.{listed}
use Rattle.suites.specs.Told.{refuses}
use Rattle.limits.specs.Tests.{unless}
use Rattle.fields.specs.Each.{EachFrom, none_from, more_from}
use Rattle.fields.specs.Field.{field, field_head, field_length, has_field, after_field}
use Rattle.fields.specs.Kind.{Kind, WellFormed, kind10, kind14}
use Rattle.fields.specs.Languages.{pair_allowed}
use Rattle.fields.specs.Unit.{BookUnit, Allowed, source_length, text_in_range, unit_text}
use Rattle.fields.proofs.Fields.{field_told}
use Rattle.kinds.specs.declared.Kind.{Kind as BookKind}
use Rattle.kinds.specs.declared.Kind.TheVariants.{Tag10, Tag14}
use Rattle.kinds.specs.Kind.{kind_of, kind_by, book_kind}
use Rattle.kinds.specs.Lengths.{header_bytes, unit_calls, close_calls}
use Rattle.kinds.proofs.Formed.{formed, by_header}
use Rattle.format.specs.Layout.{units_bytes, unit_bytes}
use Rattle.format.specs.Sealings.{opening_fields, unit_header}
use Rattle.parser.specs.Frame.{
  most_units,
  frame_number,
  frame_from,
  frame_to,
  after_header,
  has_sealed,
  after_unit,
  after_close,
  unit_tests,
  close_tests,
  frame_of,
  begins_close,
  frame_at,
}
use Rattle.opening_fields.specs.Opening.{has_opening, opening_number, opening_suite, opening_bytes, after_opening, opening_tests, check_tests}
use Rattle.parser.proofs.Frames.{number_fits, no_header}
use Rattle.opening_fields.proofs.Openings.{front_says}
use Rattle.seals.specs.Seal.{unit_agrees, unit_opened, close_agrees, unit_seal_tests, close_seal_tests}
use Rattle.checker.specs.Check.{check_told, with_seal, checked_at, by_frame, check_from, after_tests, check_answer_of, check_answer, CheckAnswer, accepted}
use Rattle.checker.proofs.BookKinds.{behind}
use Rattle.checker.proofs.Exact.{opens}
use Rattle.checker.proofs.From.{from_step}
use Rattle.checker.proofs.Units.{bytes_rest, unit_written}
use Rattle.book.specs.Limits.{ManyUnits, units_then, header_there, close_there, LimitLaw, OneKindLaw}

-- an answer that is not 13
abbrev Other : Answer → Type 0
Other a = (why : Refusal) → a ≡ Err why → number why ≢ 13

other_done : Other (Ok tt)
other_done why e = let z : ◌≡◌ {A = ℕ} 0 1 = cc in absurd (omega arith)

other_refused : (why : Refusal) → number why ≢ 13 → Other (Err why)
other_refused why h w e = let same : why ≡ w = cc in λ q. h (ap number same ∙ q)

other_unless : (ok : Bool) (why : Refusal) (rest : Answer) → number why ≢ 13 → Other rest → Other (unless ok why rest)
other_unless true why rest h o = o
other_unless false why rest h o = other_refused why h

-- a frame that is not 13
abbrev OtherFrame : FrameAnswer → Type 0
OtherFrame f = (why : Refusal) → f ≡ Err why → number why ≢ 13

other_frame : (a : Answer) (f : FrameAnswer) → Other a → OtherFrame f → OtherFrame (frame_of a f)
other_frame (Ok tt) f o h = h
other_frame (Err why) f o h = λ w e. let same : why ≡ w = cc in o w (ap Err same)

other_unit : (m : ℕ) → OtherFrame (Ok (Unit m))
other_unit m why e = let z : ◌≡◌ {A = ℕ} 0 1 = cc in absurd (omega arith)

other_close : OtherFrame (Ok Close)
other_close why e = let z : ◌≡◌ {A = ℕ} 0 1 = cc in absurd (omega arith)

module _ (kind : Kind) (key o : List ℕ) (n : ℕ) (s : List ℕ) where
  -- below the reader's limit no frame is refused with 13
  unit-other : n < most_units → Other (unit_tests kind n s)
  unfolding unit_tests
  unit-other few =
      rw (lt-ltb n most_units few)
      (other_unless (has_field kind.header_tag (header_bytes kind) s) FieldMalformed _ (λ q. omega arith)
      (other_unless (eqb (frame_number kind s) n) NumberOutOfOrder _ (λ q. omega arith)
      (other_unless (pair_allowed (frame_from kind s) (frame_to kind s)) LanguagesNotAllowed _ (λ q. omega arith)
      (other_unless (has_sealed (after_header kind s)) FieldMalformed _ (λ q. omega arith) other_done))))

  close_other : Other (close_tests kind n s)
  unfolding close_tests
  close_other =
      other_unless (has_field kind.close_tag kind.number_bytes s && has_field 0x12 16 (after_field kind.number_bytes s)) FieldMalformed _
      (λ q. omega arith)
      (other_unless (eqb (frame_number kind s) n) NumberOutOfOrder _ (λ q. omega arith) other_done)

  frame-other : n < most_units → OtherFrame (frame_at kind n s)
  unfolding frame_at
  frame-other few = by (begins_close kind s)
    where
      by : (v : Bool)
          → OtherFrame (cond v (frame_of (close_tests kind n s) (Ok Close)) (frame_of (unit_tests kind n s) (Ok (Unit (field_length (after_header kind s))))))
      by true = other_frame (close_tests kind n s) (Ok Close) close_other other_close
      by false = other_frame (unit_tests kind n s) (Ok (Unit (field_length (after_header kind s)))) (unit-other few) (other_unit _)

  -- nor is its seal
  unit-seal : (m : ℕ) → Other (unit_seal_tests kind key o n m s)
  unfolding unit_seal_tests
  unit-seal m =
      other_unless (unit_agrees kind key o n m s) TagDiffers _ (λ q. omega arith)
      (other_unless (text_in_range m (source_length (unit_opened kind key o n m s))) SegmentLength _ (λ q. omega arith) other_done)

  close-seal : Other (close_seal_tests kind key o n s)
  unfolding close_seal_tests
  close-seal =
      other_unless (close_agrees kind key o n s) TagDiffers _ (λ q. omega arith)
      (other_unless (eqb (length (after_close kind s)) 0) FieldMalformed _ (λ q. omega arith) other_done)

  checked-other : n < most_units → OtherFrame (checked_at kind key o n s)
  unfolding checked_at
  checked-other few = by (frame_at kind n s) (frame-other few)
    where
      by : (f : FrameAnswer) → OtherFrame f → OtherFrame (with_seal f (λ (m : ℕ). unit_seal_tests kind key o n m s) (close_seal_tests kind key o n s))
      by (Ok (Unit m)) h = other_frame (unit_seal_tests kind key o n m s) (Ok (Unit m)) (unit-seal m) (other_unit m)
      by (Ok Close) h = other_frame (close_seal_tests kind key o n s) (Ok Close) close-seal other_close
      by (Err why) h = h

-- what begins with a unit's header does not begin as a close
header_begins : (kind : Kind) → WellFormed kind → (s : List ℕ) → header_there kind s ≡ true → begins_close kind s ≡ false
header_begins kind wf s there = by (begins_close kind s) refl
  where
    by : (v : Bool) → begins_close kind s ≡ v → v ≡ false
    by true e = sym there ∙ no_header kind wf 0 s e
    by false e = refl

-- 15 where the fields are there, else 14
abbrev past_refusal : Bool → Refusal
past_refusal there = cond there NumberOutOfOrder FieldMalformed

-- where a number has no room in its bytes
module _ (kind : Kind) (n : ℕ) (s : List ℕ) (b : Bytes s) (past : 256 ^ kind.number_bytes ≤ n) (few : n < most_units) where
  differs : 3 + kind.number_bytes ≤ length s → eqb (frame_number kind s) n ≡ false
  differs long = let fits = number_fits kind s long b in ne_eqb (frame_number kind s) n (λ e. omega arith)

  past-unit : (v : Bool) → header_there kind s ≡ v → unit_tests kind n s ≡ Err (past_refusal v)
  unfolding unit_tests
  past-unit true e =
      let long = (field_told kind.header_tag (header_bytes kind) s e).0 in
      rw (e, lt-ltb n most_units few, differs (omega arith)) refl
  past-unit false e = rw e refl

  past-close : (v : Bool) → close_there kind s ≡ v → close_tests kind n s ≡ Err (past_refusal v)
  unfolding close_tests
  past-close true e =
      let both = (and-eq-true_iff (has_field kind.close_tag kind.number_bytes s) (has_field 0x12 16 (after_field kind.number_bytes s))).0 e in
      let long = (field_told kind.close_tag kind.number_bytes s both.0).0 in
      rw (e, differs long) refl
  past-close false e = rw e refl

  past-frame : frame_at kind n s ≡ Err (past_refusal (cond (begins_close kind s) (close_there kind s) (header_there kind s)))
  unfolding frame_at
  past-frame = by (begins_close kind s)
    where
      by : (v : Bool)
          → cond v (frame_of (close_tests kind n s) (Ok Close)) (frame_of (unit_tests kind n s) (Ok (Unit (field_length (after_header kind s)))))
          ≡ Err (past_refusal (cond v (close_there kind s) (header_there kind s)))
      by true = ap (λ (a : Answer). frame_of a (Ok Close)) (past-close (close_there kind s) refl)
      by false = ap (λ (a : Answer). frame_of a (Ok (Unit (field_length (after_header kind s))))) (past-unit (header_there kind s) refl)

  past-checked : (key o : List ℕ)
      → checked_at kind key o n s ≡ Err (past_refusal (cond (begins_close kind s) (close_there kind s) (header_there kind s)))
  unfolding checked_at
  past-checked key o = ap (λ (f : FrameAnswer). with_seal f (λ (m : ℕ). unit_seal_tests kind key o n m s) (close_seal_tests kind key o n s)) past-frame

-- check of a kind whose numbers end below the reader's limit
module _ (kind : Kind) (small : 256 ^ kind.number_bytes < most_units) (key o : List ℕ) where
  -- a unit is there, so its number has room
  unit-fits : (n m : ℕ) (s : List ℕ) → Bytes s → n ≤ 256 ^ kind.number_bytes → checked_at kind key o n s ≡ Ok (Unit m) → n < 256 ^ kind.number_bytes
  unit-fits n m s b in-room e = of (ltb n (256 ^ kind.number_bytes)) refl
    where
      of : (v : Bool) → ltb n (256 ^ kind.number_bytes) ≡ v → n < 256 ^ kind.number_bytes
      of true q = ltb-true n (256 ^ kind.number_bytes) q
      of false q =
          let gone = sym e ∙ past-checked kind n s b (ltb-false n (256 ^ kind.number_bytes) q) (omega arith) key o in
          let z : ◌≡◌ {A = ℕ} 0 1 = cc in absurd (omega arith)

  other_at : (n total : ℕ) (s : List ℕ) (rest : ℕ → CheckAnswer) (f : FrameAnswer) → Bytes s → n ≤ 256 ^ kind.number_bytes → checked_at kind key o n s ≡ f
      → ((m : ℕ) → n < 256 ^ kind.number_bytes → (check_told (rest m)).number ≢ 13)
      → (check_told (by_frame f rest (accepted n (total + close_calls kind)))).number ≢ 13
  other_at n total s rest (Ok (Unit m)) b in-room e h = h m (unit-fits n m s b in-room e)
  other_at n total s rest (Ok Close) b in-room e h = λ q. omega arith
  other_at n total s rest (Err why) b in-room e h = checked-other kind key o n s (omega arith) why e

  other_from : (left n total : ℕ) (s : List ℕ) → Bytes s → n ≤ 256 ^ kind.number_bytes → most_units < left + n
      → (check_told (check_from kind key o left n total s)).number ≢ 13
  unfolding check_from
  other_from zero n total s b in-room enough = absurd (omega arith)
  other_from (suc left) n total s b in-room enough =
      other_at n total s (λ (m : ℕ). check_from kind key o left (suc n) (total + unit_calls kind m) (after_unit kind m s))
      (checked_at kind key o n s) b in-room refl
      (λ m fits. other_from left (suc n) (total + unit_calls kind m) (after_unit kind m s) (bytes_rest kind s b m) (omega arith) (omega arith))

-- the tests before the frames
opening_other : (k : ℕ) (s : List ℕ) → Other (check_tests k s)
unfolding check_tests opening_tests
opening_other k s =
    other_unless (eqb k 16) KeyLength _ (λ q. omega arith)
    (other_unless (has_opening s) FieldMalformed _ (λ q. omega arith)
    (other_unless (listed (opening_suite s).cipher (opening_suite s).steps) SuiteNotListed _ (λ q. omega arith) other_done))

other_answer : (a : Answer) (w : CheckAnswer) → Other a → (check_told w).number ≢ 13 → (check_told (after_tests a w)).number ≢ 13
other_answer (Ok tt) w o h = h
other_answer (Err why) w o h = o why refl

never_13 : (key s : List ℕ) → Bytes s → (check_told (check_answer_of kind10 key s)).number ≢ 13
unfolding check_answer_of after_opening
never_13 key s b =
    other_answer (check_tests (length key) s) _ (opening_other (length key) s)
    (other_from kind10 (omega arith) key (opening_bytes s) (suc most_units) 0 0 (after_opening s) (bytes_drop 16 s b) (omega arith) (omega arith))

-- units that are written, from a number on: check comes to what stands behind them
module _ (kind : Kind) (wf : WellFormed kind) (key o : List ℕ) (held : o ≡ opening_fields (opening_suite o) (opening_number o)) (long : length key ≡ 16)
    (key_bytes : Bytes key) (rest : List ℕ) (answer : CheckAnswer) where
  comes-to : (left n total : ℕ) (us : List BookUnit) → EachFrom (Allowed kind) n us → n + length us ≤ most_units → n + length us ≤ 256 ^ kind.number_bytes
      → ((t : ℕ) → check_from kind key o left (n + length us) t rest ≡ answer)
      → check_from kind key o (left + length us) n total (units_bytes kind (opening_suite o) key (opening_number o) n us ++ rest) ≡ answer
  unfolding units_bytes
  comes-to left n total [] none_from few fits then = (λ i. check_from kind key o (add-zero left i) (sym (add-zero n) i) total rest) ∙ then total
  comes-to left n total (u ∷ us) (more_from a each) few fits then =
      let suite = opening_suite o in
      let number = opening_number o in
      let more : List ℕ = units_bytes kind suite key number (suc n) us ++ rest in
      let m : ℕ = length (unit_text u.source u.target) in
      let w = unit_written kind key o held long key_bytes n wf (omega arith) (omega arith) u a more in
      (λ i. check_from kind key o (add-suc left (length us) i) n total (units_bytes kind suite key number n (u ∷ us) ++ rest))
      ∙ ap (check_from kind key o (suc (left + length us)) n total)
      (append_assoc (unit_bytes kind suite key number n u) (units_bytes kind suite key number (suc n) us) rest)
      ∙ from_step kind key o (left + length us) n total (unit_bytes kind suite key number n u ++ more) (Ok (Unit m)) w.0
      ∙ ap (check_from kind key o (left + length us) (suc n) (total + unit_calls kind m)) w.1
      ∙ comes-to left (suc n) (total + unit_calls kind m) us each (omega arith) (omega arith)
      (λ t. ap (λ (k : ℕ). check_from kind key o left k t rest) (omega arith) ∙ then t)

module _ (k : BookKind) (suite : Suite) (key : List ℕ) (number : ℕ) (rest : List ℕ) where
  -- such a string has the kind of its units
  units-kind : (us : List BookUnit) → 0 < length us → book_kind (units_then (kind_of k) suite key number us rest) ≡ k
  unfolding book_kind units_bytes unit_bytes unit_header field field_head
  units-kind [] some = absurd (omega arith)
  units-kind (u ∷ us) some = ap kind_by (behind suite number _) ∙ by_header k

  -- and check of it comes to what stands behind the units
  answers : (us : List BookUnit) (n left : ℕ) → ManyUnits (kind_of k) suite key number us n → 0 < n → n + left ≡ suc most_units → 1 ≤ left
      → n ≤ 256 ^ (kind_of k).number_bytes → (answer : CheckAnswer)
      → ((t : ℕ) → check_from (kind_of k) key (opening_fields suite number) left n t rest ≡ answer)
      → check_answer key (units_then (kind_of k) suite key number us rest) ≡ answer
  unfolding check_answer check_answer_of
  answers us n left many some all more fits answer then =
      let kind = kind_of k in
      let f : List ℕ = opening_fields suite number in
      let r : List ℕ = units_bytes kind suite key number 0 us ++ rest in
      let x : List ℕ = f ++ r in
      let count = many.count in
      let says = front_says suite number many.number_fits in
      let enough : suc most_units ≡ left + length us = omega arith in
      ap (λ (q : BookKind). check_answer_of (kind_of q) key x) (units-kind us (omega arith))
      ∙ opens suite key number r many.listed_suite many.key_long many.number_fits (λ o q. check_from kind key o (suc most_units) 0 0 q)
      ∙ (λ j. check_from kind key f (enough j) 0 0 (units_bytes kind (sym says.0 j) key (sym says.1 j) 0 us ++ rest))
      ∙ comes-to kind (formed k) key f (λ j. opening_fields (sym says.0 j) (sym says.1 j)) many.key_long many.key_bytes rest answer
      left 0 0 us many.units (omega arith) (omega arith)
      (λ t. ap (λ (c : ℕ). check_from kind key f left c t rest) (omega arith) ∙ then t)

-- behind the last unit that there may be
full_checked : (s : List ℕ) → header_there kind14 s ≡ true → (key o : List ℕ) → checked_at kind14 key o most_units s ≡ Err TooManyUnits
unfolding checked_at frame_at unit_tests
full_checked s there key o = rw (header_begins kind14 (formed Tag14) s there, there) refl

-- one kind a book: neither a close nor a header
neither_checked : (kind : Kind) (n : ℕ) (s : List ℕ) → begins_close kind s ≡ false → header_there kind s ≡ false → (key o : List ℕ)
    → checked_at kind key o n s ≡ Err FieldMalformed
unfolding checked_at frame_at unit_tests
neither_checked kind n s begins there key o = rw (begins, there) refl

pub one_kind_law : OneKindLaw
one_kind_law =
    record {
      mixed = λ k suite key number us n many some few fits rest begins there.
          let o : List ℕ = opening_fields suite number in
          ap check_told
          (answers k suite key number rest us n (suc (most_units - n)) many some (omega arith) (omega arith) fits (Err FieldMalformed)
          (λ t. from_step (kind_of k) key o (most_units - n) n t rest _ (neither_checked (kind_of k) n rest begins there key o)));
    }

old_refused : (v : Bool) (n t : ℕ) (rest : ℕ → CheckAnswer)
    → check_told (by_frame (Err (cond v NumberOutOfOrder FieldMalformed)) rest (accepted n t)) ≡ refuses (cond v 15 14)
old_refused true n t rest = refl
old_refused false n t rest = refl

pub limit_law : LimitLaw
unfolding check_answer
limit_law =
    record {
      never = λ key s b e. subst (λ (q : BookKind). (check_told (check_answer_of (kind_of q) key s)).number ≢ 13) (sym e) (never_13 key s b);
      old = λ suite key number us many rest b.
          let there : Bool = cond (begins_close kind10 rest) (close_there kind10 rest) (header_there kind10 rest) in
          let o : List ℕ = opening_fields suite number in
          ap check_told
          (answers Tag10 suite key number rest us 65536 16711680 many (omega arith) (omega arith) (omega arith) (omega arith)
          (Err (cond there NumberOutOfOrder FieldMalformed))
          (λ t. from_step kind10 key o 16711679 65536 t rest _ (past-checked kind10 65536 rest b (omega arith) (omega arith) key o)))
          ∙ old_refused there 0 0 (λ (m : ℕ). accepted 0 0);
      wide = λ suite key number us many rest there.
          let o : List ℕ = opening_fields suite number in
          ap check_told
          (answers Tag14 suite key number rest us 16777215 1 many (omega arith) (omega arith) (omega arith) (omega arith) (Err TooManyUnits)
          (λ t. from_step kind14 key o 0 16777215 t rest _ (full_checked rest there key o)));
    }
