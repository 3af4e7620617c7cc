-- One unit: what is read was written, and what was written is read.
use Rattle.suites.specs.Answer.{Answer}
use Rattle.parser.specs.FrameAnswer.{FrameAnswer}
use Rattle.parser.specs.declared.frame.Frame.TheVariants.{Unit}
use Rattle.std.specs.Prelude.{Ok}
use mathlib.Core.Path.{◌≡◌, refl, sym, ap, ◌∙◌}
use mathlib.Core.Bool.{true, and-eq-true_iff}
use mathlib.Core.List.{List, ◌++◌, append_assoc}
use Prim.Native.Nat.{ℕ, ◌+◌, ◌-◌, ◌^◌, ◌<◌}
use native.Mathlib.Nat.{le_of_eq}
use native.Mathlib.Omega.{arith}
use lib.Dec.{leb}
use lib.ListN.{length, take, drop}
use lib.Seq.{take_at, drop_at, take_all}
use Rattle.bits.specs.Bytes.{Bytes}
use Rattle.bits.proofs.Bytes.{bytes_append, bytes_take, bytes_drop}
use Rattle.suites.specs.declared.suite.Suite.{Suite}
use Rattle.limits.proofs.Passed.{unless_passed, unless_passes}
use Rattle.fields.specs.Field.{field_value, after_field}
use Rattle.fields.specs.Kind.{Kind, WellFormed}
use Rattle.fields.specs.Languages.{pair_allowed}
use Rattle.format.specs.Layout.{sealed_fields, unit_bytes}
use Rattle.format.specs.Sealings.{opening_fields, unit_header, unit_sealing, sealed_bytes}
use Rattle.fields.specs.Unit.{BookUnit, Allowed, unit_of, details_of, details_length, in_range, unit_text, source_length, source_of, target_of, text_in_range}
use Rattle.fields.proofs.Details.{length_details_of}
use Rattle.kinds.specs.Lengths.{header_bytes}
use Rattle.format.proofs.Lengths.{length_unit_sealed}
use Rattle.fields.proofs.Texts.{
  range_told,
  length_unit_text,
  bytes_unit_text,
  source_length_unit_text,
  in_range_unit_text,
  length_source_of,
  length_target_of,
  text_held,
}
use Rattle.parser.specs.Frame.{most_units, frame_details, frame_from, frame_to, after_header, frame_sealed, after_unit, frame_of, frame_at}
use Rattle.opening_fields.specs.Opening.{opening_number, opening_suite}
use Rattle.fields.proofs.Values.{bytes_value, bytes_after}
use Rattle.parser.proofs.Frames.{unit_frame, unit_here, UnitTold, unit_told}
use Rattle.seals.specs.Seal.{unit_along, unit_opened, unit_agrees, unit_seal_tests, close_seal_tests}
use Rattle.seals.proofs.Along.{unit_along_lem, unit_along_here}
use Rattle.seals.proofs.Seals.{sealed_at, opened_at, agrees_at, text_told, text_here}
use Rattle.checker.specs.Check.{with_seal, checked_at}
use Rattle.checker.proofs.Sealed.{unit_sealed}

-- the parts of a unit that is read, whose text has m bytes, are bytes
module _ (kind : Kind) (s : List ℕ) (b : Bytes s) where
  bytes-header : Bytes (after_header kind s)
  unfolding after_header
  bytes-header = bytes_after (header_bytes kind) s b

  bytes_sealed : (m : ℕ) → Bytes (frame_sealed kind m s)
  unfolding frame_sealed
  bytes_sealed m =
      let r = after_header kind s in
      bytes_append (field_value m r) (field_value 16 (after_field m r)) (bytes_value m r bytes-header)
      (bytes_value 16 (after_field m r) (bytes_after m r bytes-header))

  pub bytes_rest : (m : ℕ) → Bytes (after_unit kind m s)
  unfolding after_unit
  bytes_rest m =
      let r = after_header kind s in
      bytes_after 16 (after_field m r) (bytes_after m r bytes-header)

  bytes-details : Bytes (frame_details kind s)
  unfolding frame_details
  bytes-details = bytes_take (details_length kind) (drop (3 + kind.number_bytes) s) (bytes_drop (3 + kind.number_bytes) s b)

  bytes-from : Bytes (frame_from kind s)
  unfolding frame_from
  bytes-from = bytes_take kind.code_bytes (frame_details kind s) bytes-details

  bytes-to : Bytes (frame_to kind s)
  unfolding frame_to
  bytes-to =
      let d = frame_details kind s in
      bytes_take kind.code_bytes (drop kind.code_bytes d) (bytes_drop kind.code_bytes d bytes-details)

-- what is told of such a unit, which opens to the text t
pub record UnitRead (kind : Kind) (suite : Suite) (key : List ℕ) (number n m : ℕ) (s t : List ℕ) : Type 0 where
  pub unit : BookUnit
  pub allowed : Allowed kind n unit
  pub opened : unit_text unit.source unit.target ≡ t
  pub text : length (unit_text unit.source unit.target) ≡ m
  pub bytes : s ≡ unit_bytes kind suite key number n unit ++ after_unit kind m s
  pub rest : Bytes (after_unit kind m s)
  pub few : n < most_units

-- under the opening fields o, as a writer makes them
module _ (kind : Kind) (key o : List ℕ) (held : o ≡ opening_fields (opening_suite o) (opening_number o)) (long : length key ≡ 16) (key_bytes : Bytes key)
    (n : ℕ) where
  -- what the opening fields say
  abbrev suite : Suite
  suite = opening_suite o

  abbrev number : ℕ
  number = opening_number o

  module _ (s : List ℕ) (b : Bytes s) (m : ℕ) where
    -- a unit that is there, whose tag agrees and whose text t is in range
    module _ (told : UnitTold kind n m s) (t : List ℕ) (bt : Bytes t) (long-t : length t ≡ m)
        (image : sealed_at suite key number n (unit_along kind o s) t ≡ frame_sealed kind m s)
        (range : text_in_range (length t) (source_length t) ≡ true) where
      abbrev u : BookUnit
      u = unit_of (frame_from kind s) (frame_to kind s) (source_of t) (target_of t)

      u-text : unit_text (source_of t) (target_of t) ≡ t
      u-text = text_held t range bt

      u-allowed : Allowed kind n u
      unfolding source_of target_of
      u-allowed =
          record {
            given =
                record {
                  from_long = told.from_long;
                  to_long = told.to_long;
                  from_bytes = bytes-from kind s b;
                  to_bytes = bytes-to kind s b;
                  source_bytes = bytes_take (source_length t) (drop 2 t) (bytes_drop 2 t bt);
                  target_bytes = bytes_drop (2 + source_length t) t bt;
                };
            languages = told.languages;
            range =
                (λ i. in_range (length_source_of t range i) (length_target_of t i))
                ∙ ((and-eq-true_iff (leb (2 + source_length t) (length t)) (in_range (source_length t) (length t - (2 + source_length t)))).0 range).1;
          }

      u-details : details_of kind u ≡ frame_details kind s
      unfolding details_of
      u-details = sym told.details

      u-sealed : sealed_bytes suite key (unit_sealing kind suite number n u) ≡ frame_sealed kind m s
      unfolding sealed_bytes unit_sealing
      u-sealed =
          let along = unit_along_lem kind o n m s b told ∙ ap (λ (f : List ℕ). f ++ unit_header kind n (frame_details kind s)) held in
          (λ i. sealed_at suite key number n (opening_fields suite number ++ unit_header kind n (u-details i)) (u-text i))
          ∙ ap (λ (h : List ℕ). sealed_at suite key number n h t) (sym along)
          ∙ image

      u-read : UnitRead kind suite key number n m s t
      unfolding unit_bytes
      u-read =
          let m-is : length (unit_text (source_of t) (target_of t)) ≡ m = ap length u-text ∙ long-t in
          record {
            unit = u;
            allowed = u-allowed;
            opened = u-text;
            text = m-is;
            bytes =
                told.written b
                ∙ sym (append_assoc (unit_header kind n (frame_details kind s)) (sealed_fields m (frame_sealed kind m s)) (after_unit kind m s))
                ∙ (λ i. (unit_header kind n (sym u-details i) ++ sealed_fields (sym m-is i) (sym u-sealed i)) ++ after_unit kind m s);
            rest = bytes_rest kind s b m;
            few = told.few;
          }

    pub unit_read : checked_at kind key o n s ≡ Ok (Unit m) → UnitRead kind suite key number n m s (unit_opened kind key o n m s)
    unfolding checked_at unit_seal_tests unit_agrees unit_opened
    unit_read e =
        let h : List ℕ = unit_along kind o s in
        let x : List ℕ = frame_sealed kind m s in
        let t : List ℕ = opened_at suite key number n h x in
        let both = unit_sealed (λ (k : ℕ). unit_seal_tests kind key o n k s) (close_seal_tests kind key o n s) (frame_at kind n s) m e in
        let told = unit_told kind n m s both.0 in
        let tag = unless_passed (agrees_at suite key number n h x) _ _ both.1 in
        let range = unless_passed (text_in_range m (source_length t)) _ _ tag.1 in
        let text = text_told suite key number n h long key_bytes x m (bytes_sealed kind s b m) told.sealed_long tag.0 in
        u-read told t text.0 text.2 text.1 (ap (λ (k : ℕ). text_in_range k (source_length t)) text.2 ∙ range.0)

  -- a unit that is written, and what follows it
  module _ (wf : WellFormed kind) (fits : n < 256 ^ kind.number_bytes) (few : n < most_units) (u : BookUnit) (a : Allowed kind n u) (rest : List ℕ) where
    abbrev t : List ℕ
    t = unit_text u.source u.target

    abbrev d : List ℕ
    d = details_of kind u

    abbrev x : List ℕ
    x = sealed_bytes suite key (unit_sealing kind suite number n u)

    abbrev s : List ℕ
    s = unit_frame kind n d (length t) x rest

    s-is : unit_bytes kind suite key number n u ++ rest ≡ s
    unfolding unit_bytes
    s-is = append_assoc (unit_header kind n d) (sealed_fields (length t) x) rest

    languages : pair_allowed (take kind.code_bytes d) (take kind.code_bytes (drop kind.code_bytes d)) ≡ true
    unfolding details_of
    languages =
        let g = a.given in
        let to : take kind.code_bytes (drop kind.code_bytes d) ≡ u.to =
        ap (take kind.code_bytes) (drop_at u.from u.to kind.code_bytes g.from_long) ∙ take_all kind.code_bytes u.to (le_of_eq g.to_long) in
        (λ i. pair_allowed (take_at u.from u.to kind.code_bytes g.from_long i) (to i)) ∙ a.languages

    read_back : (frame_at kind n s ≡ Ok (Unit (length t))) × (frame_details kind s ≡ d) × (frame_sealed kind (length t) s ≡ x) × (after_unit kind (length t) s ≡ rest)
    read_back =
        let range = range_told (length u.source) (length u.target) a.range in
        let lt = length_unit_text u.source u.target in
        let lx = length_unit_sealed kind suite key number n u in
        unit_here kind wf n d (length t) x rest fits few (length_details_of kind u a.given) languages (omega arith) (omega arith) (omega arith)

    opened-back : (unit_agrees kind key o n (length t) s ≡ true) × (unit_opened kind key o n (length t) s ≡ t)
    unfolding unit_agrees unit_opened sealed_bytes unit_sealing
    opened-back =
        let h : List ℕ = opening_fields suite number ++ unit_header kind n d in
        let along = unit_along_here kind o n d (sealed_fields (length t) x ++ rest) (length_details_of kind u a.given)
        ∙ ap (λ (f : List ℕ). f ++ unit_header kind n d) held in
        let back = text_here suite key number n h long key_bytes t (bytes_unit_text u.source u.target a.given.source_bytes a.given.target_bytes) in (
          (λ i. agrees_at suite key number n (along i) (read_back.2 i)) ∙ back.0,
          (λ i. opened_at suite key number n (along i) (read_back.2 i)) ∙ back.1,
        )

    in-range : text_in_range (length t) (source_length (unit_opened kind key o n (length t) s)) ≡ true
    in-range =
        let small : length u.source < 65536 = omega (arith, range_told (length u.source) (length u.target) a.range) in
        ap (text_in_range (length t)) (ap source_length opened-back.1 ∙ source_length_unit_text u.source u.target small)
        ∙ in_range_unit_text u.source u.target
        ∙ a.range

    outcome : unit_seal_tests kind key o n (length t) s ≡ Ok tt
    unfolding unit_seal_tests
    outcome = unless_passes _ _ _ opened-back.0 (unless_passes _ _ _ in-range refl)

    pub unit_written : (checked_at kind key o n (unit_bytes kind suite key number n u ++ rest) ≡ Ok (Unit (length t)))
        × (after_unit kind (length t) (unit_bytes kind suite key number n u ++ rest) ≡ rest)
    unfolding checked_at
    unit_written = (
      ap (checked_at kind key o n) s-is
          ∙ ap (λ (f : FrameAnswer). with_seal f (λ (k : ℕ). unit_seal_tests kind key o n k s) (close_seal_tests kind key o n s)) read_back.0
          ∙ ap (λ (o : Answer). frame_of o (Ok (Unit (length t)))) outcome,
      ap (after_unit kind (length t)) s-is ∙ read_back.3,
    )

    pub unit_opened_lem : unit_opened kind key o n (length t) (unit_bytes kind suite key number n u ++ rest) ≡ t
    unit_opened_lem = ap (unit_opened kind key o n (length t)) s-is ∙ opened-back.1

    -- and the codes that stand there
    pub unit_codes : (frame_from kind (unit_bytes kind suite key number n u ++ rest) ≡ u.from)
        × (frame_to kind (unit_bytes kind suite key number n u ++ rest) ≡ u.to)
    unfolding frame_from frame_to details_of
    unit_codes =
        let k = kind.code_bytes in
        let g = a.given in
        let details : frame_details kind (unit_bytes kind suite key number n u ++ rest) ≡ u.from ++ u.to = ap (frame_details kind) s-is ∙ read_back.1 in (
          ap (take k) details ∙ take_at u.from u.to k g.from_long,
          ap (λ (l : List ℕ). take k (drop k l)) details
              ∙ ap (take k) (drop_at u.from u.to k g.from_long)
              ∙ take_all k u.to (le_of_eq g.to_long),
        )
