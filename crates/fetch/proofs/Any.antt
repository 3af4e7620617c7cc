-- What fetch hands out of any string stands there, sealed under the key.
use Rattle.suites.specs.Answer.{Answer}
use Rattle.parser.specs.FrameAnswer.{FrameAnswer}
use Rattle.parser.specs.declared.frame.Frame.TheVariants.{Close, Unit}
use Rattle.std.specs.Prelude.{Ok, Err}
use mathlib.Core.Path.{◌≡◌, refl, sym, ap, subst, ◌∙◌}
use mathlib.Core.Bool.{true}
use mathlib.Core.List.{List, [], ◌∷◌, ◌++◌}
use Prim.Native.Nat.{ℕ, ◌+◌, ◌<◌}
use native.Mathlib.Omega.{arith}
use borrow.Author.Tests.{eqb-true}
use lib.Dec.{eqb}
use lib.ListN.{length, take, drop}
use lib.Seq.{take_at}
use Rattle.bits.specs.Bytes.{Bytes}
use Rattle.bits.proofs.Bytes.{bytes_drop}
use Rattle.suites.specs.declared.refusal.Refusal.TheVariants.{KeyLength, NoSuchUnit}
use Rattle.suites.specs.Told.{Told, gives}
use Rattle.limits.proofs.Passed.{unless_passed}
use Rattle.sealing.specs.Seal.{written}
use Rattle.fields.specs.Kind.{Kind}
use Rattle.fields.specs.Unit.{BookUnit, unit_text, source_of, target_of}
use Rattle.fields.proofs.Texts.{range_told}
use Rattle.kinds.specs.Kind.{kind_of, book_kind}
use Rattle.format.specs.Layout.{unit_bytes}
use Rattle.format.specs.Sealings.{opening_fields}
use Rattle.parser.specs.Frame.{after_unit, frame_of, frame_at}
use Rattle.opening_fields.specs.Opening.{opening_number, opening_suite, opening_bytes, after_opening, opening_tests, check_tests}
use Rattle.opening_fields.proofs.Openings.{opening_passed, front_suite, front_number, front_held}
use Rattle.seals.specs.Seal.{unit_opened, unit_seal_tests, close_seal_tests}
use Rattle.checker.specs.Check.{with_seal, checked_at}
use Rattle.checker.proofs.Units.{UnitRead, unit_read}
use Rattle.walk.proofs.Places.{walked_to}
use Rattle.fetch.specs.Fetch.{and_then, handed_out, room_test, unit_outcome, close_met, frame_outcome, frame_text, outcome_here, text_at, FetchAnswer}
use Rattle.fetch.specs.Fetch.{fetch_told, fetch_answer_of, fetch_answer, fetch_buffer}
use Rattle.fetch.specs.Fetch.{placed_outcome, placed_text, placed_report, placed_told, placed_answer_of, placed_answer, placed_buffer_of, placed_buffer, next_of}
use Rattle.fetch.specs.Hands.{with_next}
use Rattle.fetch.specs.Any.{sealed_unit, SealedAt, HandsSealed, walk_end, FetchesSealed}
use Rattle.fetch.proofs.Handed.{source_is, target_is, handed_unit, there, fetch_placed_lem}
use Rattle.fetch.proofs.Reached.{unit_length_lem}

-- tests that are done, and then others
then_done : (a b : Answer) → and_then a b ≡ Ok tt → (a ≡ Ok tt) × (b ≡ Ok tt)
then_done (Ok tt) b e = (refl, e)
then_done (Err why) b e = let z : ◌≡◌ {A = ℕ} 0 1 = cc in absurd (omega arith)

-- where the outcome is no refusal a unit stands
frame_done : (unit : ℕ → Answer) (closed : Answer) (f : FrameAnswer) → frame_outcome f unit (and_then closed (Err NoSuchUnit)) ≡ Ok tt
    → (m : ℕ) × (f ≡ Ok (Unit m)) × (unit m ≡ Ok tt)
frame_done unit closed (Ok (Unit m)) e = (m, refl, e)
frame_done unit closed (Ok Close) e =
    let no = (then_done closed (Err NoSuchUnit) e).1 in
    let z : ◌≡◌ {A = ℕ} 0 1 = cc in
    absurd (omega arith)
frame_done unit closed (Err why) e = let z : ◌≡◌ {A = ℕ} 0 1 = cc in absurd (omega arith)

-- an answer with values: the outcome is no refusal, and these are the values
report_given : (a : Answer) (text : List ℕ) (p s t next : ℕ) → placed_told (placed_report a text p) ≡ gives (s ∷ t ∷ next ∷ [])
    → (a ≡ Ok tt) × (length (source_of text) ≡ s) × (length (target_of text) ≡ t) × (p ≡ next)
report_given (Ok tt) text p s t next e =
    let v : length (source_of text) ∷ length (target_of text) ∷ p ∷ [] ≡ s ∷ t ∷ next ∷ [] = ap (λ (x : Told). x.values) e in
    (refl, cc, cc, cc)
report_given (Err why) text p s t next e =
    let v : [] ≡ s ∷ t ∷ next ∷ [] = ap (λ (x : Told). x.values) e in
    let z : ◌≡◌ {A = ℕ} 0 1 = cc in
    absurd (omega arith)

with_given : (r : FetchAnswer) (s t next : ℕ) → fetch_told r ≡ gives (s ∷ t ∷ []) → placed_told (with_next r next) ≡ gives (s ∷ t ∷ next ∷ [])
with_given (Ok l) s t next e =
    let v : l.source ∷ l.target ∷ [] ≡ s ∷ t ∷ [] = ap (λ (x : Told). x.values) e in
    let p : l.source ≡ s = cc in
    let q : l.target ≡ t = cc in
    λ i. gives (p i ∷ q i ∷ next ∷ [])
with_given (Err why) s t next e =
    let v : [] ≡ s ∷ t ∷ [] = ap (λ (x : Told). x.values) e in
    let z : ◌≡◌ {A = ℕ} 0 1 = cc in
    absurd (omega arith)

-- at a place of a string of bytes
module _ (key x : List ℕ) (key_bytes : Bytes key) (bytes : Bytes x) (n at : ℕ) (out : List ℕ) where
  abbrev kind : Kind
  kind = kind_of (book_kind x)

  abbrev o : List ℕ
  o = opening_bytes x

  -- the string from the place on
  abbrev y : List ℕ
  y = drop at x

  module _ (done : placed_outcome (kind_of (book_kind x)) key x n at (length out) ≡ Ok tt) where
    both : (check_tests (length key) x ≡ Ok tt) × (outcome_here kind key o n y (length out) ≡ Ok tt)
    unfolding placed_outcome
    both = then_done (check_tests (length key) x) (outcome_here kind key o n y (length out)) done

    tests : (eqb (length key) 16 ≡ true) × (opening_tests x ≡ Ok tt)
    unfolding check_tests
    tests = unless_passed (eqb (length key) 16) KeyLength (opening_tests x) both.0

    long : length key ≡ 16
    long = eqb-true (length key) 16 tests.0

    -- a unit stands there
    found : (m : ℕ) × (frame_at kind n y ≡ Ok (Unit m)) × (unit_outcome kind key o n m y (length out) ≡ Ok tt)
    unfolding outcome_here close_met
    found = frame_done (λ (m : ℕ). unit_outcome kind key o n m y (length out)) (close_seal_tests kind key o n y) (frame_at kind n y) both.1

    abbrev m : ℕ
    m = found.0

    checked : checked_at kind key o n y ≡ Ok (Unit m)
    unfolding checked_at unit_outcome
    checked =
        let seal = (then_done (unit_seal_tests kind key o n m y) (room_test (unit_opened kind key o n m y) (length out)) found.2).0 in
        (λ i. with_seal (found.1 i) (λ (k : ℕ). unit_seal_tests kind key o n k y) (close_seal_tests kind key o n y))
        ∙ ap (λ (a : Answer). frame_of a (Ok (Unit m))) seal

    read : UnitRead kind (opening_suite o) key (opening_number o) n m y (unit_opened kind key o n m y)
    read = unit_read kind key o (front_held x tests.1 bytes).1 long key_bytes n y (bytes_drop at x bytes) m checked

    abbrev u : BookUnit
    u = read.unit

    -- its bytes, under what the string says
    same : unit_bytes kind (opening_suite o) key (opening_number o) n u ≡ sealed_unit key x n u
    same = λ i. unit_bytes kind (front_suite x i) key (front_number x i) n u

    sealed-at : SealedAt key x n at u
    sealed-at =
        let b = sealed_unit key x n u in
        record {
          key_long = long;
          listed_suite = (opening_passed x tests.1).0;
          opening = (front_held x tests.1 bytes).1 ∙ (λ i. opening_fields (front_suite x i) (front_number x i));
          few = read.few;
          allowed = read.allowed;
          stands = ap (take (length b)) (read.bytes ∙ ap (λ (l : List ℕ). l ++ after_unit kind m y) same) ∙ take_at b (after_unit kind m y) (length b) refl;
        }

    -- the text that is opened
    text : placed_text kind key x n at ≡ unit_text u.source u.target
    unfolding placed_text text_at
    text = (λ i. frame_text (found.1 i) (λ (k : ℕ). unit_opened kind key o n k y)) ∙ sym read.opened

    small : length u.source < 65536
    small = omega (arith, range_told (length u.source) (length u.target) read.allowed.range)

    -- the place behind it
    behind : next_of kind at (frame_at kind n y) ≡ at + length (sealed_unit key x n u)
    behind =
        ap (next_of kind at) found.1
        ∙ omega (arith, unit_length_lem kind (opening_suite x) key (opening_number x) n u read.allowed, read.text)

    handed : (s t : ℕ) → length (source_of (placed_text kind key x n at)) ≡ s → length (target_of (placed_text kind key x n at)) ≡ t
        → HandsSealed key x n at s t out (placed_buffer key x n at out)
    unfolding placed_buffer placed_buffer_of
    handed s t es et =
        let source : length u.source ≡ s = sym (ap length (source_is u small text)) ∙ es in
        let target : length u.target ≡ t = sym (ap length (target_is u small text)) ∙ et in
        record {
          unit = u;
          sealed = sealed-at;
          source = source;
          target = target;
          output =
              ap (λ (a : Answer). written a (handed_out (placed_text kind key x n at)) out) done
              ∙ handed_unit u small text out
              ∙ (λ i. u.source ++ (u.target ++ drop (source i + target i) out));
        }

  given : (s t next : ℕ) → placed_told (placed_answer key x n at out) ≡ gives (s ∷ t ∷ next ∷ [])
      → (placed_outcome kind key x n at (length out) ≡ Ok tt) × (length (source_of (placed_text kind key x n at)) ≡ s)
      × (length (target_of (placed_text kind key x n at)) ≡ t) × (next_of kind at (frame_at kind n y) ≡ next)
  unfolding placed_answer placed_answer_of
  given s t next e =
      report_given (placed_outcome kind key x n at (length out)) (placed_text kind key x n at) (next_of kind at (frame_at kind n y)) s t next e

placed_sealed : (key x out : List ℕ) (n at s t next : ℕ) → Bytes key → Bytes x → placed_told (placed_answer key x n at out) ≡ gives (s ∷ t ∷ next ∷ [])
    → (h : HandsSealed key x n at s t out (placed_buffer key x n at out)) × (next ≡ at + length (sealed_unit key x n h.unit))
unfolding handed
placed_sealed key x out n at s t next key_bytes bytes e =
    let g = given key x key_bytes bytes n at out s t next e in
    (handed key x key_bytes bytes n at out g.0 s t g.1 g.2, sym g.3 ∙ behind key x key_bytes bytes n at out g.0)

walked_sealed : (key x out : List ℕ) (k s t : ℕ) → Bytes key → Bytes x → fetch_told (fetch_answer key x k out) ≡ gives (s ∷ t ∷ [])
    → ((walk_end x k).number ≡ k) × HandsSealed key x k (16 + (walk_end x k).at) s t out (fetch_buffer key x k out)
unfolding fetch_answer fetch_buffer placed_answer placed_buffer
walked_sealed key x out k s t key_bytes bytes e =
    let p = walk_end x k in
    let kind = kind_of (book_kind x) in
    let next = next_of kind (16 + p.at) (frame_at kind p.number (drop (16 + p.at) x)) in
    let law = fetch_placed_lem kind key x k out in
    let here = ap placed_told law.0 ∙ with_given (fetch_answer_of kind key x k out) s t next e in
    let g = given key x key_bytes bytes p.number (16 + p.at) out s t next here in
    let unit = found key x key_bytes bytes p.number (16 + p.at) out g.0 in
    let to = walked_to kind (after_opening x) k unit.0 (ap (frame_at kind p.number) (sym (there kind key x k)) ∙ unit.1) in
    let h = handed key x key_bytes bytes p.number (16 + p.at) out g.0 s t g.1 g.2 in (
      to,
      subst (λ (j : ℕ). HandsSealed key x j (16 + p.at) s t out (fetch_buffer key x k out)) to
          (subst (λ (l : List ℕ). HandsSealed key x p.number (16 + p.at) s t out l) law.1 h),
    )

pub fetches_sealed : FetchesSealed
fetches_sealed = record { walked = walked_sealed; placed = placed_sealed }
