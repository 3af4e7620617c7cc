-- What fetch and the ciphertext call give of a book whose walk ends at a known place.
use Rattle.suites.specs.Answer.{Answer}
use Rattle.std.specs.Prelude.{Ok, Err}
use mathlib.Core.Path.{◌≡◌, refl, sym, ap, ◌∙◌}
use mathlib.Core.Bool.{true}
use mathlib.Core.List.{List, ◌++◌}
use Prim.Native.Nat.{ℕ, ◌+◌, ◌^◌, ◌≤◌, ◌<◌}
use native.Mathlib.Omega.{arith}
use borrow.Author.Tests.{eq-eqb, le-leb, lt-leb}
use lib.Dec.{eqb, leb}
use lib.ListN.{length, drop}
use lib.Seq.{drop_at, drop-drop}
use Rattle.suites.specs.declared.refusal.Refusal.{Refusal}
use Rattle.suites.specs.declared.refusal.Refusal.TheVariants.{KeyLength, OutputTooShort}
use Rattle.suites.specs.declared.suite.Suite.{Suite}
use Rattle.suites.specs.Suite.{listed}
use Rattle.limits.specs.Tests.{unless}
use Rattle.limits.proofs.Passed.{unless_passes}
use Rattle.sealing.specs.Seal.{written}
use Rattle.fields.specs.Kind.{Kind}
use Rattle.kinds.specs.Kind.{kind_of, book_kind}
use Rattle.fields.specs.Unit.{BookUnit, unit_text}
use Rattle.format.specs.Layout.{units_bytes}
use Rattle.format.specs.Sealings.{opening_fields}
use Rattle.format.proofs.Lengths.{length_opening_fields}
use Rattle.parser.specs.Frame.{frame_at}
use Rattle.opening_fields.specs.Opening.{opening_tests, check_tests}
use Rattle.opening_fields.proofs.Openings.{opening_here, front_here}
use Rattle.walk.specs.Walk.{walk_to}
use Rattle.walk.specs.Clear.{clear_of, clear_unless, placed_clear_of, unit_clear_of}
use Rattle.fetch.specs.Fetch.{and_then, handed_out, room_test, outcome_here, text_at, fetch_outcome, fetch_text, fetch_report, fetched_lengths}
use Rattle.fetch.specs.Fetch.{placed_outcome, fetch_answer_of, fetch_answer, fetch_told, fetch_buffer_of, fetch_buffer}
use Rattle.fetch.specs.Exact.{HandsOut}
use Rattle.fetch.proofs.Handed.{source_is, target_is, handed_long, handed_unit}
use Rattle.fetch.proofs.Reached.{end_place}

-- in a book with the units us, then z, behind its opening fields, the walk to k ends before z
module _ (kind : Kind) (suite : Suite) (key : List ℕ) (number : ℕ) (few : number < 2 ^ 64)
    (allowed : listed suite.cipher suite.steps ≡ true) (us : List BookUnit) (z : List ℕ) (k : ℕ)
    (ends : walk_to kind k (units_bytes kind suite key number 0 us ++ z) ≡ end_place kind suite key number us) where
  abbrev units : List ℕ
  units = units_bytes kind suite key number 0 us

  abbrev x : List ℕ
  x = opening_fields suite number ++ (units ++ z)

  there : drop (length units) (units ++ z) ≡ z
  there = drop_at units z (length units) refl

  pub outcome_there : length key ≡ 16 → (r : ℕ) → fetch_outcome kind key x k r ≡ outcome_here kind key (opening_fields suite number) (length us) z r
  unfolding fetch_outcome check_tests
  outcome_there long r =
      let h = opening_here suite number (units ++ z) few allowed in
      let front = front_here suite number (units ++ z) in
      let tests : check_tests (length key) x ≡ (Ok tt) = unless_passes (eqb (length key) 16) KeyLength (opening_tests x) (eq-eqb (length key) 16 long) h.0 in
      (λ i. and_then (tests i) (outcome_here kind key (front i) (walk_to kind k (h.3 i)).number (drop (walk_to kind k (h.3 i)).at (h.3 i)) r))
      ∙ (λ i. outcome_here kind key (opening_fields suite number) (ends i).number (drop (ends i).at (units ++ z)) r)
      ∙ ap (λ (y : List ℕ). outcome_here kind key (opening_fields suite number) (length us) y r) there

  pub text_there : fetch_text kind key x k ≡ text_at kind key (opening_fields suite number) (length us) z
  unfolding fetch_text
  text_there =
      let h = opening_here suite number (units ++ z) few allowed in
      let front = front_here suite number (units ++ z) in
      (λ i. text_at kind key (front i) (walk_to kind k (h.3 i)).number (drop (walk_to kind k (h.3 i)).at (h.3 i)))
      ∙ (λ i. text_at kind key (opening_fields suite number) (ends i).number (drop (ends i).at (units ++ z)))
      ∙ ap (text_at kind key (opening_fields suite number) (length us)) there

  pub there_whole : drop (16 + length units) x ≡ z
  there_whole =
      sym (drop-drop (length units) 16 x)
      ∙ ap (drop (length units)) (drop_at (opening_fields suite number) (units ++ z) 16 (length_opening_fields suite number))
      ∙ there

  -- read at that place, whatever the number
  pub placed_there : length key ≡ 16 → (n r : ℕ) → placed_outcome kind key x n (16 + length units) r ≡ outcome_here kind key (opening_fields suite number) n z r
  unfolding placed_outcome check_tests
  placed_there long n r =
      let h = opening_here suite number (units ++ z) few allowed in
      let front = front_here suite number (units ++ z) in
      let tests : check_tests (length key) x ≡ (Ok tt) = unless_passes (eqb (length key) 16) KeyLength (opening_tests x) (eq-eqb (length key) 16 long) h.0 in
      λ i. and_then (tests i) (outcome_here kind key (front i) n (there_whole i) r)

  pub placed_clear_there : (n : ℕ) → placed_clear_of kind n (16 + length units) x ≡ clear_of kind (16 + length units) z (frame_at kind n z)
  unfolding placed_clear_of
  placed_clear_there n =
      let h = opening_here suite number (units ++ z) few allowed in
      λ i. clear_unless (h.0 i) (clear_of kind (16 + length units) (there_whole i) (frame_at kind n (there_whole i)))

  pub clear_there : unit_clear_of kind k x ≡ clear_of kind (16 + length units) z (frame_at kind (length us) z)
  unfolding unit_clear_of placed_clear_of
  clear_there =
      let h = opening_here suite number (units ++ z) few allowed in
      (λ i. clear_unless (h.0 i)
      (clear_of kind (16 + (walk_to kind k (h.3 i)).at) (drop (16 + (walk_to kind k (h.3 i)).at) x)
      (frame_at kind (walk_to kind k (h.3 i)).number (drop (16 + (walk_to kind k (h.3 i)).at) x))))
      ∙ (λ i. clear_of kind (16 + (ends i).at) (drop (16 + (ends i).at) x) (frame_at kind (ends i).number (drop (16 + (ends i).at) x)))
      ∙ ap (λ (y : List ℕ). clear_of kind (16 + length units) y (frame_at kind (length us) y)) there_whole

-- of a book x, by its own kind
module _ (key x : List ℕ) (k : ℕ) where
  -- the outcome where the output has r bytes, and the text
  abbrev outcome_of : ℕ → Answer
  outcome_of r = fetch_outcome (kind_of (book_kind x)) key x k r

  abbrev text_of : List ℕ
  text_of = fetch_text (kind_of (book_kind x)) key x k

  -- a refusal leaves the output as it was
  pub refused_as : (why : Refusal) (out : List ℕ) → outcome_of (length out) ≡ Err why
      → (fetch_answer key x k out ≡ Err why) × (fetch_buffer key x k out ≡ out)
  unfolding fetch_answer fetch_answer_of fetch_buffer fetch_buffer_of
  refused_as why out e = (λ i. fetch_report (e i) text_of, λ i. written (e i) (handed_out text_of) out)

  -- a unit's text that is opened is handed out where there is room
  module _ (u : BookUnit) (small : length u.source < 65536) (outcome : (r : ℕ) → outcome_of r ≡ room_test (unit_text u.source u.target) r)
      (text : text_of ≡ unit_text u.source u.target) where
    abbrev t : List ℕ
    t = unit_text u.source u.target

    long : length (handed_out t) ≡ length u.source + length u.target
    long = handed_long u small refl

    room : (r : ℕ) → length u.source + length u.target ≤ r → outcome_of r ≡ Ok tt
    unfolding room_test
    room r h =
        outcome r
        ∙ unless_passes (leb (length (handed_out t)) r) OutputTooShort (Ok tt) (le-leb (length (handed_out t)) r (omega (arith, long))) refl

    no_room : (r : ℕ) → r < length u.source + length u.target → outcome_of r ≡ Err OutputTooShort
    unfolding room_test
    no_room r h = outcome r ∙ ap (λ b. unless b OutputTooShort (Ok tt)) (lt-leb (length (handed_out t)) r (omega (arith, long)))

    pub fetched : (out : List ℕ) → length u.source + length u.target ≤ length out
        → fetch_answer key x k out ≡ fetched_lengths (length u.source) (length u.target)
    unfolding fetch_answer fetch_answer_of
    fetched out h =
        ap (λ (a : Answer). fetch_report a text_of) (room (length out) h) ∙ (λ i. fetched_lengths (length (source_is u small text i)) (length (target_is u small text i)))

    pub too_short : (out : List ℕ) → length out < length u.source + length u.target
        → (fetch_answer key x k out ≡ Err OutputTooShort) × (fetch_buffer key x k out ≡ out)
    too_short out h = refused_as OutputTooShort out (no_room (length out) h)

    pub hands_out : HandsOut key x k u
    unfolding fetch_buffer fetch_buffer_of
    hands_out =
        record {
          answer = λ out h. ap fetch_told (fetched out h);
          output = λ out h. ap (λ (a : Answer). written a (handed_out text_of) out) (room (length out) h) ∙ handed_unit u small text out;
          short = λ out h. (ap fetch_told (too_short out h).0, (too_short out h).1);
        }
