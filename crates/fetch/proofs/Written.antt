-- A unit and a close that were written: what fetch finds where they stand.
use Rattle.suites.specs.Answer.{Answer}
use Rattle.parser.specs.FrameAnswer.{FrameAnswer}
use Rattle.parser.specs.declared.frame.Frame.TheVariants.{Close, Unit}
use Rattle.std.specs.Prelude.{Ok, Err}
use mathlib.Core.Path.{◌≡◌, sym, ap, ◌∙◌}
use mathlib.Core.List.{List, ◌++◌}
use Prim.Native.Nat.{ℕ, ◌^◌, ◌<◌}
use lib.ListN.{length}
use Rattle.bits.specs.Bytes.{Bytes}
use Rattle.suites.specs.declared.refusal.Refusal.TheVariants.{NoSuchUnit}
use Rattle.suites.specs.declared.suite.Suite.{Suite}
use Rattle.fields.specs.Kind.{Kind, WellFormed}
use Rattle.fields.specs.Unit.{BookUnit, Allowed, unit_text}
use Rattle.format.specs.Layout.{unit_bytes, close_bytes}
use Rattle.format.specs.Sealings.{opening_fields}
use Rattle.parser.specs.Frame.{most_units, frame_from, frame_to, frame_at}
use Rattle.opening_fields.specs.Opening.{opening_number, opening_suite}
use Rattle.opening_fields.proofs.Openings.{front_says}
use Rattle.seals.specs.Seal.{unit_opened, unit_seal_tests, close_seal_tests}
use Rattle.checker.specs.Check.{checked_at}
use Rattle.checker.proofs.Sealed.{unit_sealed, close_sealed_lem}
use Rattle.checker.proofs.Units.{unit_written, unit_opened_lem, unit_codes as unit-codes-read}
use Rattle.checker.proofs.Closes.{close_written}
use Rattle.fetch.specs.Fetch.{and_then, room_test, unit_outcome, close_met, frame_outcome, frame_text, outcome_here, text_at}

-- by the frame that stands there
module _ (kind : Kind) (key o : List ℕ) (n : ℕ) (s : List ℕ) where
  outcome-by : (f : FrameAnswer) (r : ℕ) → frame_at kind n s ≡ f
      → outcome_here kind key o n s r ≡ frame_outcome f (λ (m : ℕ). unit_outcome kind key o n m s r) (close_met kind key o n s)
  unfolding outcome_here
  outcome-by f r e = λ i. frame_outcome (e i) (λ (m : ℕ). unit_outcome kind key o n m s r) (close_met kind key o n s)

  text-by : (f : FrameAnswer) → frame_at kind n s ≡ f → text_at kind key o n s ≡ frame_text f (λ (m : ℕ). unit_opened kind key o n m s)
  unfolding text_at
  text-by f e = λ i. frame_text (e i) (λ (m : ℕ). unit_opened kind key o n m s)

module _ (kind : Kind) (suite : Suite) (key : List ℕ) (number : ℕ) (fit : number < 2 ^ 64) (long : length key ≡ 16) (key_bytes : Bytes key) (n : ℕ)
    (wf : WellFormed kind)
    (fits : n < 256 ^ kind.number_bytes) where
  -- the book's opening fields, and what they say
  abbrev o : List ℕ
  o = opening_fields suite number

  says : (opening_suite (opening_fields suite number) ≡ suite) × (opening_number (opening_fields suite number) ≡ number)
  says = front_says suite number fit

  held : opening_fields suite number ≡ opening_fields (opening_suite (opening_fields suite number)) (opening_number (opening_fields suite number))
  held = λ i. opening_fields (sym says.0 i) (sym says.1 i)

  module _ (few : n < most_units) (u : BookUnit) (a : Allowed kind n u) (rest : List ℕ) where
    abbrev t : List ℕ
    t = unit_text u.source u.target

    abbrev s : List ℕ
    s = unit_bytes kind suite key number n u ++ rest

    -- the unit's bytes, under what the opening fields say
    same : unit_bytes kind suite key number n u ++ rest
        ≡ unit_bytes kind (opening_suite (opening_fields suite number)) key (opening_number (opening_fields suite number)) n u ++ rest
    same = λ i. unit_bytes kind (sym says.0 i) key (sym says.1 i) n u ++ rest

    unit-both : (frame_at kind n s ≡ Ok (Unit (length t))) × (unit_seal_tests kind key o n (length t) s ≡ Ok tt)
    unfolding checked_at
    unit-both =
        unit_sealed (λ (m : ℕ). unit_seal_tests kind key o n m s) (close_seal_tests kind key o n s) (frame_at kind n s) (length t)
        (ap (checked_at kind key o n) same ∙ (unit_written kind key o held long key_bytes n wf fits few u a rest).0)

    opened : unit_opened kind key o n (length t) s ≡ t
    opened = ap (unit_opened kind key o n (length t)) same ∙ unit_opened_lem kind key o held long key_bytes n wf fits few u a rest

    pub unit_frame_lem : frame_at kind n s ≡ Ok (Unit (length t))
    unit_frame_lem = unit-both.0

    pub unit_outcome_lem : (r : ℕ) → outcome_here kind key o n s r ≡ room_test t r
    unfolding unit_outcome
    unit_outcome_lem r = outcome-by kind key o n s (Ok (Unit (length t))) r unit_frame_lem ∙ (λ i. and_then (unit-both.1 i) (room_test (opened i) r))

    pub unit_text_lem : text_at kind key o n s ≡ t
    unit_text_lem = text-by kind key o n s (Ok (Unit (length t))) unit_frame_lem ∙ opened

    -- the codes that stand there
    pub unit_codes : (frame_from kind s ≡ u.from) × (frame_to kind s ≡ u.to)
    unit_codes =
        let codes = unit-codes-read kind key o held long key_bytes n wf fits few u a rest in
        (ap (frame_from kind) same ∙ codes.0, ap (frame_to kind) same ∙ codes.1)

  abbrev c : List ℕ
  c = close_bytes kind suite key number n

  close-both : (frame_at kind n c ≡ Ok Close) × (close_seal_tests kind key o n c ≡ Ok tt)
  unfolding checked_at
  close-both =
      close_sealed_lem (λ (m : ℕ). unit_seal_tests kind key o n m c) (close_seal_tests kind key o n c) (frame_at kind n c)
      ((λ i. checked_at kind key o n (close_bytes kind (sym says.0 i) key (sym says.1 i) n)) ∙ close_written kind key o held long key_bytes n wf fits)

  pub close_frame : frame_at kind n c ≡ Ok Close
  close_frame = close-both.0

  pub close_outcome_lem : (r : ℕ) → outcome_here kind key o n c r ≡ Err NoSuchUnit
  unfolding close_met
  close_outcome_lem r = outcome-by kind key o n c (Ok Close) r close_frame ∙ ap (λ (a : Answer). and_then a (Err NoSuchUnit)) close-both.1
