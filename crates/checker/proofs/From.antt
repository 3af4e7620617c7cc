-- The frames from a place of a book on: what is accepted there is units, then a close, and all of these are accepted.
use Rattle.parser.specs.FrameAnswer.{FrameAnswer}
use Rattle.parser.specs.declared.frame.Frame.TheVariants.{Close, Unit}
use Rattle.std.specs.Prelude.{Ok, Err}
use mathlib.Core.Path.{◌≡◌, refl, sym, ap, ◌∙◌}
use mathlib.Core.List.{List, [], ◌∷◌, ◌++◌, append_assoc}
use Prim.Native.Nat.{ℕ, zero, suc, ◌+◌, ◌^◌, ◌≤◌, ◌<◌}
use native.Mathlib.Nat.{add-zero}
use native.Mathlib.Omega.{arith}
use lib.ListN.{length, length-append}
use Rattle.bits.specs.Bytes.{Bytes}
use Rattle.calls.specs.Tweak.{blocks_of}
use Rattle.suites.specs.declared.suite.Suite.{Suite}
use Rattle.fields.specs.Each.{EachFrom, none_from, more_from}
use Rattle.fields.specs.Kind.{Kind, WellFormed}
use Rattle.format.specs.Layout.{unit_bytes, close_bytes, units_bytes}
use Rattle.format.specs.Sealings.{Sealing, opening_fields, unit_header, close_header, unit_sealing, close_sealing, unit_sealings, call_total}
use Rattle.fields.specs.Unit.{BookUnit, Allowed, details_of, unit_text}
use Rattle.fields.proofs.Details.{length_details_of}
use Rattle.format.proofs.Lengths.{length_opening_fields, length_unit_header, length_close_header}
use Rattle.kinds.specs.Lengths.{header_length, close_header_length, unit_calls, close_calls}
use Rattle.parser.specs.Frame.{most_units, after_unit}
use Rattle.opening_fields.specs.Opening.{opening_number, opening_suite}
use Rattle.checker.specs.declared.check.Totals.{Totals}
use Rattle.checker.specs.Check.{checked_at, by_frame, check_from, CheckAnswer, accepted}
use Rattle.checker.proofs.Units.{UnitRead, unit_read, unit_written}
use Rattle.checker.proofs.Closes.{close_read, close_written}

next : (n : ℕ) (u : BookUnit) (us : List BookUnit) → n + length (u ∷ us) ≡ suc n + length us
next n u us = omega arith

-- units from number n on, then the close: their sealings, and the cipher calls of these
module _ (kind : Kind) (suite : Suite) (number : ℕ) where
  abbrev pub sealings_from : ℕ → List BookUnit → List Sealing
  sealings_from n us = unit_sealings kind suite number n us ++ close_sealing kind suite number (n + length us) ∷ []

  calls-none : (n : ℕ) → call_total (sealings_from n []) ≡ close_calls kind
  unfolding unit_sealings call_total close_sealing
  calls-none n =
      let h = close_header kind (n + 0) in
      let long : length (opening_fields suite number ++ h) ≡ 16 + close_header_length kind =
      length-append (opening_fields suite number) h ∙ omega (arith, length_opening_fields suite number, length_close_header kind (n + 0)) in
      ap (λ (a : ℕ). blocks_of a + blocks_of 0 + 1 + 0) long ∙ add-zero (close_calls kind)

  calls-more : (n : ℕ) (u : BookUnit) (us : List BookUnit) → Allowed kind n u
      → call_total (sealings_from n (u ∷ us)) ≡ unit_calls kind (length (unit_text u.source u.target)) + call_total (sealings_from (suc n) us)
  unfolding unit_sealings call_total unit_sealing
  calls-more n u us a =
      let d = details_of kind u in
      let m = length (unit_text u.source u.target) in
      let long : length (opening_fields suite number ++ unit_header kind n d) ≡ 16 + header_length kind =
      length-append (opening_fields suite number) (unit_header kind n d)
      ∙ omega (arith, length_opening_fields suite number, length_unit_header kind n d, length_details_of kind u a.given) in
      λ i. blocks_of (long i) + blocks_of m + 1 + call_total (unit_sealings kind suite number (suc n) us ++ close_sealing kind suite number (next n u us i) ∷ [])

module _ (kind : Kind) (suite : Suite) (key : List ℕ) (number : ℕ) where
  -- their bytes
  abbrev pub bytes_from : ℕ → List BookUnit → List ℕ
  bytes_from n us = units_bytes kind suite key number n us ++ close_bytes kind suite key number (n + length us)

  pub bytes_none : (n : ℕ) → bytes_from n [] ≡ close_bytes kind suite key number n
  unfolding units_bytes
  bytes_none n = ap (close_bytes kind suite key number) (add-zero n)

  pub bytes_more : (n : ℕ) (u : BookUnit) (us : List BookUnit) → bytes_from n (u ∷ us) ≡ unit_bytes kind suite key number n u ++ bytes_from (suc n) us
  unfolding units_bytes
  bytes_more n u us =
      let b : List ℕ = unit_bytes kind suite key number n u in
      let rest : List ℕ = units_bytes kind suite key number (suc n) us in
      append_assoc b rest (close_bytes kind suite key number (n + length (u ∷ us)))
      ∙ ap (λ (c : ℕ). b ++ (rest ++ close_bytes kind suite key number c)) (next n u us)

  -- what is told where it accepts with the count c and the total t
  pub record Accepts (n total : ℕ) (s : List ℕ) (c t : ℕ) : Type 0 where
    pub units : List BookUnit
    pub allowed : EachFrom (Allowed kind) n units
    pub bytes : s ≡ bytes_from n units
    pub count : c ≡ n + length units
    pub calls : t ≡ total + call_total (sealings_from kind suite number n units)
    pub fits : c < 256 ^ kind.number_bytes
    pub few : c ≤ most_units

  from-close : (n total : ℕ) (s : List ℕ) (c t : ℕ) → n ≤ most_units → s ≡ close_bytes kind suite key number n → n < 256 ^ kind.number_bytes
      → accepted n (total + close_calls kind) ≡ accepted c t → Accepts n total s c t
  from-close n total s c t few bytes fits e =
      let same : ◌≡◌ {A = Totals} (record { units = n; calls = total + close_calls kind }) (record { units = c; calls = t }) = cc in
      let count : n ≡ c = ap (λ (r : Totals). r.units) same in
      let sum : total + close_calls kind ≡ t = ap (λ (r : Totals). r.calls) same in
      record {
        units = [];
        allowed = none_from;
        bytes = bytes ∙ sym (bytes_none n);
        count = omega arith;
        calls = sym sum ∙ ap (λ (k : ℕ). total + k) (sym (calls-none kind suite number n));
        fits = omega arith;
        few = omega arith;
      }

  from-unit : (n total m : ℕ) (s : List ℕ) (c t : ℕ) {text : List ℕ} → UnitRead kind suite key number n m s text
      → Accepts (suc n) (total + unit_calls kind m) (after_unit kind m s) c t → Accepts n total s c t
  from-unit n total m s c t r w =
      let u = r.unit in
      let us = w.units in
      let one : unit_calls kind m ≡ unit_calls kind (length (unit_text u.source u.target)) = ap (unit_calls kind) (sym r.text) in
      record {
        units = u ∷ us;
        allowed = more_from r.allowed w.allowed;
        bytes = r.bytes ∙ ap (λ (x : List ℕ). unit_bytes kind suite key number n u ++ x) w.bytes ∙ sym (bytes_more n u us);
        count = w.count ∙ sym (next n u us);
        calls = w.calls ∙ omega (arith, one, calls-more kind suite number n u us r.allowed);
        fits = w.fits;
        few = w.few;
      }

-- by the frame at the place
pub from_step : (kind : Kind) (key o : List ℕ) (left n total : ℕ) (s : List ℕ) (f : FrameAnswer) → checked_at kind key o n s ≡ f
    → check_from kind key o (suc left) n total s
    ≡ by_frame f (λ (m : ℕ). check_from kind key o left (suc n) (total + unit_calls kind m) (after_unit kind m s)) (accepted n (total + close_calls kind))
unfolding check_from
from_step kind key o left n total s f e =
    λ i. by_frame (e i) (λ (m : ℕ). check_from kind key o left (suc n) (total + unit_calls kind m) (after_unit kind m s)) (accepted n (total + close_calls kind))

-- under the opening fields o, as a writer makes them
module _ (kind : Kind) (key o : List ℕ) (held : o ≡ opening_fields (opening_suite o) (opening_number o)) (long : length key ≡ 16) (key_bytes : Bytes key) where
  abbrev suite : Suite
  suite = opening_suite o

  abbrev number : ℕ
  number = opening_number o

  from-frame : (n total : ℕ) (s : List ℕ) (c t : ℕ) (rest : ℕ → CheckAnswer) (f : FrameAnswer) → checked_at kind key o n s ≡ f → n ≤ most_units → Bytes s
      → ((m : ℕ) → n < most_units → Bytes (after_unit kind m s) → rest m ≡ accepted c t
      → Accepts kind suite key number (suc n) (total + unit_calls kind m) (after_unit kind m s) c t)
      → by_frame f rest (accepted n (total + close_calls kind)) ≡ accepted c t → Accepts kind suite key number n total s c t
  from-frame n total s c t rest (Ok (Unit m)) q few b w e =
      let r = unit_read kind key o held long key_bytes n s b m q in
      from-unit kind suite key number n total m s c t r (w m r.few r.rest e)
  from-frame n total s c t rest (Ok Close) q few b w e =
      let r = close_read kind key o held long key_bytes n s b q in
      from-close kind suite key number n total s c t few r.0 r.1 e
  from-frame n total s c t rest (Err why) q few b w e = let z : ◌≡◌ {A = ℕ} 0 1 = cc in absurd (omega arith)

  pub from_told : (left n total : ℕ) (s : List ℕ) (c t : ℕ) → n ≤ most_units → Bytes s → check_from kind key o left n total s ≡ accepted c t
      → Accepts kind suite key number n total s c t
  unfolding check_from
  from_told zero n total s c t few b e = let z : ◌≡◌ {A = ℕ} 0 1 = cc in absurd (omega arith)
  from_told (suc left) n total s c t few b e =
      from-frame n total s c t (λ (m : ℕ). check_from kind key o left (suc n) (total + unit_calls kind m) (after_unit kind m s))
      (checked_at kind key o n s) refl few b
      (λ m less after q. from_told left (suc n) (total + unit_calls kind m) (after_unit kind m s) c t less after q) e

  -- every list of units, then the close, is accepted
  pub from_here : WellFormed kind → (left n total : ℕ) (us : List BookUnit) → EachFrom (Allowed kind) n us → length us < left
      → n + length us ≤ most_units → n + length us < 256 ^ kind.number_bytes
      → check_from kind key o left n total (bytes_from kind suite key number n us)
      ≡ accepted (n + length us) (total + call_total (sealings_from kind suite number n us))
  from_here wf zero n total us each less few fits = absurd (omega arith)
  from_here wf (suc left) n total [] none_from less few fits =
      ap (check_from kind key o (suc left) n total) (bytes_none kind suite key number n)
      ∙ from_step kind key o left n total (close_bytes kind suite key number n) (Ok Close) (close_written kind key o held long key_bytes n wf (omega arith))
      ∙ (λ i. accepted (sym (add-zero n) i) (total + sym (calls-none kind suite number n) i))
  from_here wf (suc left) n total (u ∷ us) (more_from a each) less few fits =
      let m : ℕ = length (unit_text u.source u.target) in
      let w = unit_written kind key o held long key_bytes n wf (omega arith) (omega arith) u a (bytes_from kind suite key number (suc n) us) in
      let sum : total + unit_calls kind m + call_total (sealings_from kind suite number (suc n) us)
      ≡ total + call_total (sealings_from kind suite number n (u ∷ us)) =
      omega (arith, calls-more kind suite number n u us a) in
      ap (check_from kind key o (suc left) n total) (bytes_more kind suite key number n u us)
      ∙ from_step kind key o left n total (unit_bytes kind suite key number n u ++ bytes_from kind suite key number (suc n) us) (Ok (Unit m)) w.0
      ∙ ap (check_from kind key o left (suc n) (total + unit_calls kind m)) w.1
      ∙ from_here wf left (suc n) (total + unit_calls kind m) us each (omega arith) (omega arith) (omega arith)
      ∙ (λ i. accepted (sym (next n u us) i) (sum i))
