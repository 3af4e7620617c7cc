-- A unit that is fetched: nothing but its tag can be refused before its text.
use Rattle.suites.specs.Answer.{Answer}
use Rattle.std.specs.Prelude.{Ok, Err}
use mathlib.Core.Path.{◌≡◌, refl, sym, ap, ◌∙◌}
use mathlib.Core.Bool.{Bool, true, false}
use mathlib.Core.List.{List, ◌++◌}
use Prim.Native.Nat.{ℕ, ◌≤◌}
use native.Mathlib.Omega.{arith}
use lib.ListN.{length, take, drop}
use lib.Seq.{take_all, take_at}
use Rattle.suites.specs.declared.refusal.Refusal.{Refusal}
use Rattle.suites.specs.declared.refusal.Refusal.TheVariants.{TagDiffers, SegmentLength}
use Rattle.limits.specs.Tests.{unless}
use Rattle.limits.proofs.Passed.{unless_passed}
use Rattle.opening.specs.Open.{agrees}
use Rattle.verifying.specs.Verify.{verify_outcome, verify_report, verify_answer}
use Rattle.verifying.specs.Within.{held_in, within_buffer}
use Rattle.verifying.proofs.Answers.{verify_outcome_lem, within_buffer_lem}
use Rattle.fields.specs.Unit.{source_length, text_in_range}
use Rattle.kinds.specs.declared.Kind.{Kind as BookKind}
use Rattle.kinds.specs.Kind.{kind_of}
use Rattle.format.specs.Sealings.{nonce_of}
use Rattle.parser.specs.Frame.{frame_sealed}
use Rattle.opening_fields.specs.Opening.{opening_number, opening_suite}
use Rattle.parser.proofs.Frames.{UnitTold}
use Rattle.seals.specs.Parts.{Under}
use Rattle.seals.specs.Seal.{unit_along, unit_opened, unit_agrees, unit_seal_tests}
use Rattle.seals.proofs.Verified.{unit-tested, unit_opened_long, unit_refused}
use Rattle.fetch.specs.Fetch.{and_then, room_test, text_outcome, unit_outcome}

-- a text that there is room for, in a working buffer
held_front : (m : ℕ) (text work : List ℕ) → length text ≡ m → m ≤ length work → take m (held_in (Ok tt) text work) ≡ text
held_front m text work e h =
    ap (λ (t : List ℕ). take m (t ++ drop (length text) work)) (take_all (length work) text (omega arith)) ∙ take_at text (drop (length text) work) m e

-- the range, then what follows it
range_first : (ok : Bool) (rest : Answer) → unless ok SegmentLength rest ≡ and_then (unless ok SegmentLength (Ok tt)) rest
range_first true rest = refl
range_first false rest = refl

module _ (k : BookKind) (key o : List ℕ) (n : ℕ) (under : Under key o) (m : ℕ) (s : List ℕ) (told : UnitTold (kind_of k) n m s) where
  -- what opening a unit in a working buffer answers
  abbrev pub unit_tag : Answer
  unit_tag =
      verify_outcome (opening_suite o).cipher (opening_suite o).steps key (nonce_of (opening_number o) n) (unit_along (kind_of k) o s) (frame_sealed (kind_of k) m s)

  unit-differs : (why : Refusal) (r : ℕ) → unit_tag ≡ Err why → Err why ≡ unit_outcome (kind_of k) key o n m s r
  unfolding verify_answer unit_opened unit_outcome
  unit-differs why r e =
      let text = unit_opened (kind_of k) key o n m s in
      ap (λ (a : Answer). and_then a (room_test text r)) (unit_refused k key o n under m s told why (ap (λ (a : Answer). verify_report a text) e))

  unit-agreed : (r : ℕ) → unit_tag ≡ Ok tt → text_outcome (unit_opened (kind_of k) key o n m s) r ≡ unit_outcome (kind_of k) key o n m s r
  unfolding text_outcome unit_outcome unit_seal_tests unit_agrees
  unit-agreed r e =
      let text = unit_opened (kind_of k) key o n m s in
      let h = unit_along (kind_of k) o s in
      let x = frame_sealed (kind_of k) m s in
      let tag = unless_passed (agrees (opening_suite o).cipher (opening_suite o).steps key (nonce_of (opening_number o) n) h x) TagDiffers (Ok tt)
      (verify_outcome_lem (opening_suite o) key (nonce_of (opening_number o) n) h x (Ok tt) (unit-tested k key o n under m s told) ∙ e) in
      ap (λ (l : ℕ). unless (text_in_range l (source_length text)) SegmentLength (room_test text r)) (unit_opened_long k key o n under m s told)
      ∙ range_first (text_in_range m (source_length text)) (room_test text r)
      ∙ ap (λ (v : Bool). and_then (unless v TagDiffers (unless (text_in_range m (source_length text)) SegmentLength (Ok tt))) (room_test text r)) (sym tag.0)

  -- by that answer: then the text's range, and the room for it
  pub unit_by : (tag : Answer) (r : ℕ) → unit_tag ≡ tag → and_then tag (text_outcome (unit_opened (kind_of k) key o n m s) r) ≡ unit_outcome (kind_of k) key o n m s r
  unit_by (Ok tt) r e = unit-agreed r e
  unit_by (Err why) r e = unit-differs why r e

  -- and what it leaves there
  pub unit_held : (work : List ℕ) → m ≤ length work
      → take m (within_buffer (opening_suite o).cipher (opening_suite o).steps key (nonce_of (opening_number o) n) (unit_along (kind_of k) o s)
      (frame_sealed (kind_of k) m s) work)
      ≡ unit_opened (kind_of k) key o n m s
  unfolding unit_opened
  unit_held work room =
      ap (take m) (sym (within_buffer_lem (opening_suite o) key (nonce_of (opening_number o) n) (unit_along (kind_of k) o s) (frame_sealed (kind_of k) m s) work (Ok tt)
      (unit-tested k key o n under m s told)))
      ∙ held_front m (unit_opened (kind_of k) key o n m s) work (unit_opened_long k key o n under m s told) room
