-- What is handed out of a unit's text, and what a call answers and leaves by its outcome.
use Rattle.suites.specs.Answer.{Answer}
use Rattle.parser.specs.FrameAnswer.{FrameAnswer}
use Rattle.std.specs.Prelude.{Ok, Err}
use mathlib.Core.Path.{◌≡◌, refl, sym, ap, ◌∙◌}
use mathlib.Core.Bool.{true, false}
use mathlib.Core.List.{List, [], ◌++◌, append_assoc}
use Prim.Native.Nat.{ℕ, ◌+◌, ◌-◌, ◌≤◌, ◌<◌}
use native.Mathlib.Omega.{arith}
use borrow.Author.Tests.{le-leb, lt-leb}
use lib.Dec.{leb}
use lib.ListN.{length, drop, length-append, length-drop, take-append-drop}
use lib.Seq.{drop-drop}
use Rattle.suites.specs.declared.refusal.Refusal.{Refusal}
use Rattle.suites.specs.declared.refusal.Refusal.TheVariants.{OutputTooShort, SegmentLength, NoSuchUnit}
use Rattle.limits.specs.Tests.{unless}
use Rattle.sealing.specs.Seal.{written}
use Rattle.fields.specs.Kind.{Kind}
use Rattle.fields.specs.Unit.{BookUnit, unit_text, source_length, source_of, target_of, text_in_range}
use Rattle.fields.proofs.Texts.{source_of_unit_text, target_of_unit_text, length_source_of, length_target_of}
use Rattle.parser.specs.Frame.{frame_at}
use Rattle.opening_fields.specs.Opening.{opening_bytes, after_opening, check_tests}
use Rattle.seals.specs.Seal.{unit_opened}
use Rattle.walk.specs.declared.Place.{Place}
use Rattle.walk.specs.Walk.{walk_to}
use Rattle.fetch.specs.Fetch.{
  and_then,
  handed_out,
  room_test,
  text_outcome,
  unit_outcome,
  close_met,
  frame_outcome,
  frame_text,
  outcome_here,
  text_at,
  outcome_from,
  text_from,
  fetch_outcome,
  fetch_text,
  fetch_report,
  fetch_answer_of,
  fetch_buffer_of,
  placed_outcome,
  placed_text,
  next_of,
  placed_report,
  placed_answer_of,
  placed_buffer_of,
  FetchAnswer,
  PlacedAnswer,
  fetched_lengths,
}
use Rattle.fetch.specs.Hands.{Hands, HandsNext, with_next, without_next}

pub hands_same : {a b : Answer} {t u : List ℕ} (out : List ℕ) {r : FetchAnswer} {left : List ℕ} → a ≡ b → t ≡ u → Hands a t out r left → Hands b u out r left
hands_same out p q h = (h.0 ∙ (λ i. fetch_report (p i) (q i)), h.1 ∙ (λ i. written (p i) (handed_out (q i)) out))

pub hands_refused : {a : Answer} {why : Refusal} (t out : List ℕ) → a ≡ Err why → Hands a t out (Err why) out
hands_refused t out e = hands_same {t = t} out (sym e) refl (refl, refl)

-- the source and the target of a text are what follows its first two bytes
module _ (t : List ℕ) where
  handed_is : handed_out t ≡ drop 2 t
  unfolding source_of target_of
  handed_is = ap (λ (r : List ℕ). source_of t ++ r) (sym (drop-drop (source_length t) 2 t)) ∙ take-append-drop (source_length t) (drop 2 t)

  length-handed : length (handed_out t) ≡ length t - 2
  length-handed = ap length handed_is ∙ length-drop 2 t

  pub source_within : text_in_range (length t) (source_length t) ≡ true → source_length t ≤ length t - 2
  source_within ok = omega (arith, length-handed, length-append (source_of t) (target_of t), length_source_of t ok)

  -- a text whose tag agrees: its range, then the room for it
  module _ (out : List ℕ) where
    pub not_text : text_in_range (length t) (source_length t) ≡ false → text_outcome t (length out) ≡ Err SegmentLength
    unfolding text_outcome
    not_text e = ap (λ b. unless b SegmentLength (room_test t (length out))) e

    module _ (ok : text_in_range (length t) (source_length t) ≡ true) where
      in-range : text_outcome t (length out) ≡ unless (leb (length t - 2) (length out)) OutputTooShort (Ok tt)
      unfolding text_outcome room_test
      in-range = λ i. unless (ok i) SegmentLength (unless (leb (length-handed i) (length out)) OutputTooShort (Ok tt))

      pub no_room : length out < length t - 2 → text_outcome t (length out) ≡ Err OutputTooShort
      no_room h = in-range ∙ ap (λ b. unless b OutputTooShort (Ok tt)) (lt-leb (length t - 2) (length out) h)

      pub text_hands : length t - 2 ≤ length out
          → Hands (text_outcome t (length out)) t out (fetched_lengths (source_length t) (length t - 2 - source_length t)) (drop 2 t ++ drop (length (drop 2 t)) out)
      text_hands h =
          let done = in-range ∙ ap (λ b. unless b OutputTooShort (Ok tt)) (le-leb (length t - 2) (length out) h) in
          let target : length t - 2 - source_length t ≡ length (target_of t) = omega (arith, length_target_of t) in
          hands_same out (sym done) refl
          (λ i. fetched_lengths (sym (length_source_of t ok) i) (target i), ap (λ r. r ++ drop (length r) out) (sym handed_is))

-- of a unit's text
module _ (u : BookUnit) (small : length u.source < 65536) {t : List ℕ} (text : t ≡ unit_text u.source u.target) where
  pub source_is : source_of t ≡ u.source
  source_is = ap source_of text ∙ source_of_unit_text u.source u.target small

  pub target_is : target_of t ≡ u.target
  target_is = ap target_of text ∙ target_of_unit_text u.source u.target small

  pub handed_long : length (handed_out t) ≡ length u.source + length u.target
  handed_long = (λ i. length (source_is i ++ target_is i)) ∙ length-append u.source u.target

  pub handed_unit : (out : List ℕ) → written (Ok tt) (handed_out t) out ≡ u.source ++ (u.target ++ drop (length u.source + length u.target) out)
  handed_unit out =
      (λ i. (source_is i ++ target_is i) ++ drop (handed_long i) out)
      ∙ append_assoc u.source u.target (drop (length u.source + length u.target) out)

-- where the tag is refused: the refusal, and the output stays
pub tag_answer : (tag rest : Answer) (t : List ℕ) (why : Refusal) → tag ≡ Err why → Err why ≡ fetch_report (and_then tag rest) t
tag_answer tag rest t why e = ap (λ (a : Answer). fetch_report (and_then a rest) t) (sym e)

pub tag_output : (tag rest : Answer) (given out : List ℕ) (why : Refusal) → tag ≡ Err why → out ≡ written (and_then tag rest) given out
tag_output tag rest given out why e = ap (λ (a : Answer). written (and_then a rest) given out) (sym e)

-- where there is no unit the output stays
pub none_left : (a : Answer) (out : List ℕ) → out ≡ written (and_then a (Err NoSuchUnit)) (handed_out []) out
none_left (Ok tt) out = refl
none_left (Err why) out = refl

-- with the place of the next unit
pub next_same : {a b : Answer} {t u : List ℕ} {p q : ℕ} (out : List ℕ) {r : PlacedAnswer} {left : List ℕ} → a ≡ b → t ≡ u → p ≡ q
    → HandsNext a t p out r left → HandsNext b u q out r left
next_same out e f g h = (h.0 ∙ (λ i. placed_report (e i) (f i) (g i)), h.1 ∙ (λ i. written (e i) (handed_out (f i)) out))

report_next : (a : Answer) (t : List ℕ) (next : ℕ) → with_next (fetch_report a t) next ≡ placed_report a t next
report_next (Ok tt) t next = refl
report_next (Err why) t next = refl

pub hands_next : (a : Answer) (t out : List ℕ) {r : FetchAnswer} {left : List ℕ} {q : PlacedAnswer} (p next : ℕ) → Hands a t out r left
    → q ≡ with_next r p → p ≡ next → HandsNext a t next out q left
hands_next a t out p next h e f = (e ∙ (λ i. with_next (h.0 i) (f i)) ∙ report_next a t next, h.1)

-- by the frame where the walk ends
module _ (kind : Kind) (key o : List ℕ) (n at : ℕ) (s out : List ℕ) {r : PlacedAnswer} {left : List ℕ} where
  pub frame_hands : (f : FrameAnswer) → frame_at kind n s ≡ f
      → HandsNext
      (frame_outcome f (λ (m : ℕ). unit_outcome kind key o n m s (length out)) (close_met kind key o n s))
      (frame_text f (λ (m : ℕ). unit_opened kind key o n m s)) (next_of kind at f) out r left
      → HandsNext (outcome_here kind key o n s (length out)) (text_at kind key o n s) (next_of kind at (frame_at kind n s)) out r left
  unfolding outcome_here text_at
  frame_hands f e h =
      next_same out
      (ap (λ g. frame_outcome g (λ (m : ℕ). unit_outcome kind key o n m s (length out)) (close_met kind key o n s)) (sym e))
      (ap (λ g. frame_text g (λ (m : ℕ). unit_opened kind key o n m s)) (sym e))
      (ap (next_of kind at) (sym e))
      h

-- by the tests before the frame
module _ (kind : Kind) (key s : List ℕ) (n at : ℕ) (out : List ℕ) {r : PlacedAnswer} {left : List ℕ} where
  pub tests_hand : (a : Answer) → check_tests (length key) s ≡ a
      → HandsNext (and_then a (outcome_here kind key (opening_bytes s) n (drop at s) (length out)))
      (text_at kind key (opening_bytes s) n (drop at s)) (next_of kind at (frame_at kind n (drop at s))) out r left
      → (r ≡ placed_answer_of kind key s n at out) × (left ≡ placed_buffer_of kind key s n at out)
  unfolding placed_answer_of placed_buffer_of placed_outcome placed_text
  tests_hand a e h =
      next_same out (ap (λ b. and_then b (outcome_here kind key (opening_bytes s) n (drop at s) (length out))) (sym e)) refl refl h

-- without that place
report_without : (a : Answer) (t : List ℕ) (next : ℕ) → without_next (placed_report a t next) ≡ fetch_report a t
report_without (Ok tt) t next = refl
report_without (Err why) t next = refl

pub hands_without : (a : Answer) (t out : List ℕ) {r : PlacedAnswer} {left : List ℕ} {q : FetchAnswer} (next : ℕ) → HandsNext a t next out r left
    → q ≡ without_next r → Hands a t out q left
hands_without a t out next h e = (e ∙ ap without_next h.0 ∙ report_without a t next, h.1)

-- the walk to unit k begins behind the opening fields; fetch gives what stands where it ends
module _ (kind : Kind) (key s : List ℕ) (k : ℕ) where
  abbrev pub ends_at : Place
  ends_at = walk_to kind k (after_opening s)

  pub there : drop (16 + ends_at.at) s ≡ drop ends_at.at (after_opening s)
  unfolding after_opening
  there = sym (drop-drop ends_at.at 16 s)

  module _ (out : List ℕ) where
    -- by the tests before the walk
    pub tests_fetch : {r : FetchAnswer} {left : List ℕ} (a : Answer) → check_tests (length key) s ≡ a
        → Hands (and_then a (outcome_from kind key ends_at s (length out))) (text_from kind key ends_at s) out r left
        → (r ≡ fetch_answer_of kind key s k out) × (left ≡ fetch_buffer_of kind key s k out)
    unfolding fetch_answer_of fetch_buffer_of fetch_outcome fetch_text
    tests_fetch a e h = hands_same out (ap (λ b. and_then b (outcome_from kind key ends_at s (length out))) (sym e)) refl h

    -- the same as at the place where the walk ends, without the next one
    pub fetch_placed_lem : let next = next_of kind (16 + ends_at.at) (frame_at kind ends_at.number (drop (16 + ends_at.at) s)) in
        (placed_answer_of kind key s ends_at.number (16 + ends_at.at) out ≡ with_next (fetch_answer_of kind key s k out) next)
        × (placed_buffer_of kind key s ends_at.number (16 + ends_at.at) out ≡ fetch_buffer_of kind key s k out)
    unfolding placed_answer_of placed_buffer_of placed_outcome placed_text fetch_answer_of fetch_buffer_of fetch_outcome fetch_text
    fetch_placed_lem =
        let next = next_of kind (16 + ends_at.at) (frame_at kind ends_at.number (drop (16 + ends_at.at) s)) in
        let tests = check_tests (length key) s in
        let outcome : List ℕ → Answer = λ y. and_then tests (outcome_here kind key (opening_bytes s) ends_at.number y (length out)) in
        let text : List ℕ → List ℕ = λ y. text_at kind key (opening_bytes s) ends_at.number y in (
          (λ i. placed_report (outcome (there i)) (text (there i)) next)
              ∙ sym (report_next (and_then tests (outcome_from kind key ends_at s (length out))) (text_from kind key ends_at s) next),
          λ i. written (outcome (there i)) (handed_out (text (there i))) out,
        )
