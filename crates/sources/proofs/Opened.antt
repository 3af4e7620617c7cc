-- A unit that was checked: its ciphertext, its text, and how long its source is.
use Rattle.parser.specs.declared.frame.Frame.TheVariants.{Unit}
use Rattle.std.specs.Prelude.{Ok}
use mathlib.Core.Path.{◌≡◌, sym, ap, ◌∙◌}
use mathlib.Core.Bool.{true, ◌&&◌, and-eq-true_iff}
use mathlib.Core.List.{List, ◌++◌}
use Prim.Native.Nat.{ℕ, ◌+◌, ◌-◌, ◌≤◌}
use native.Mathlib.Omega.{arith}
use borrow.Author.Tests.{leb-true}
use lib.Dec.{leb}
use lib.ListN.{length, take, drop, length-drop}
use lib.Seq.{take_at, drop-drop, length-take-le}
use Rattle.limits.proofs.Passed.{unless_passed}
use Rattle.fields.specs.Field.{field_value, after_field}
use Rattle.fields.specs.Unit.{source_length, source_of, in_range, text_in_range}
use Rattle.fields.proofs.Texts.{length_source_of}
use Rattle.kinds.specs.declared.Kind.{Kind as BookKind}
use Rattle.kinds.specs.Kind.{kind_of}
use Rattle.kinds.specs.Lengths.{header_length, ciphertext_at}
use Rattle.format.specs.Sealings.{nonce_of}
use Rattle.format.proofs.Lengths.{length_nonce_of}
use Rattle.opening.specs.Open.{ciphertext}
use Rattle.opening.proofs.Opened.{opened_is}
use Rattle.sealing.specs.Passes.{Passable, text_of}
use Rattle.parser.specs.Frame.{frame_at, frame_sealed, after_header}
use Rattle.opening_fields.specs.Opening.{opening_number, opening_suite}
use Rattle.parser.proofs.Frames.{UnitTold}
use Rattle.opening_fields.proofs.Openings.{drop_take}
use Rattle.seals.specs.Parts.{Under}
use Rattle.seals.specs.Seal.{unit_along, unit_opened, unit_agrees, unit_seal_tests, close_seal_tests}
use Rattle.seals.proofs.Verified.{unit_opened_long}
use Rattle.checker.specs.Check.{checked_at}
use Rattle.checker.proofs.Sealed.{unit_sealed}
use Rattle.checker.proofs.Turns.{unit_there}

module _ (k : BookKind) (key o : List ℕ) (under : Under key o) (n m : ℕ) (s : List ℕ) (checked : checked_at (kind_of k) key o n s ≡ Ok (Unit m)) where
  pub told : UnitTold (kind_of k) n m s
  told = unit_there (kind_of k) key o n m s checked

  -- its ciphertext, as it stands in the book
  abbrev pub standing : List ℕ
  standing = take m (drop (ciphertext_at (kind_of k)) s)

  pub standing_long : length standing ≡ m
  standing_long =
      length-take-le m (drop (ciphertext_at (kind_of k)) s) (rw length-drop (omega (arith, told.length_is)))

  standing-is : ciphertext (frame_sealed (kind_of k) m s) ≡ standing
  unfolding frame_sealed field_value after_header after_field
  standing-is =
      let h = header_length (kind_of k) in
      let tag = take 16 (drop 3 (drop (3 + m) (drop h s))) in
      let c : take m (drop 3 (drop h s)) ≡ standing = ap (take m) (drop-drop 3 h s) in
      let cut : length (frame_sealed (kind_of k) m s) - 16 ≡ m = omega (arith, told.sealed_long) in
      (λ i. take (cut i) (c i ++ tag)) ∙ take_at standing tag m standing_long

  pub opened_is_text : unit_opened (kind_of k) key o n m s ≡ text_of (opening_suite o) key (nonce_of (opening_number o) n) standing
  unfolding unit_opened
  opened_is_text =
      opened_is (opening_suite o) key (nonce_of (opening_number o) n) (unit_along (kind_of k) o s) (frame_sealed (kind_of k) m s) s
      (omega (arith, length_nonce_of (opening_number o) n))
      ∙ ap (text_of (opening_suite o) key (nonce_of (opening_number o) n)) standing-is

  pub passable : Passable (opening_suite o) (nonce_of (opening_number o) n) standing
  passable =
      record {
        usable = record { suite = under.listed_suite; short = omega (arith, length_nonce_of (opening_number o) n) };
        small = omega (arith, standing_long, told.most);
      }

  pub opened_long : length (unit_opened (kind_of k) key o n m s) ≡ m
  opened_long = unit_opened_long k key o n under m s told

  range : text_in_range m (source_length (unit_opened (kind_of k) key o n m s)) ≡ true
  unfolding checked_at unit_seal_tests
  range =
      let tests = (unit_sealed (λ (j : ℕ). unit_seal_tests (kind_of k) key o n j s) (close_seal_tests (kind_of k) key o n s) (frame_at (kind_of k) n s) m checked).1 in
      let tag = unless_passed (unit_agrees (kind_of k) key o n m s) _ _ tests in
      (unless_passed (text_in_range m (source_length (unit_opened (kind_of k) key o n m s))) _ _ tag.1).0

  -- the source is within the text, and at most 4,096 bytes long
  pub source_within : (2 + source_length (unit_opened (kind_of k) key o n m s) ≤ m) × (source_length (unit_opened (kind_of k) key o n m s) ≤ 4096)
  source_within =
      let l = source_length (unit_opened (kind_of k) key o n m s) in
      let both = (and-eq-true_iff (leb (2 + l) m) (in_range l (m - (2 + l)))).0 range in
      let first = (and-eq-true_iff (leb 1 l) (leb l 4096 && leb (m - (2 + l)) 4096)).0 both.1 in
      let second = (and-eq-true_iff (leb l 4096) (leb (m - (2 + l)) 4096)).0 first.1 in
      (leb-true (2 + l) m both.0, leb-true l 4096 second.0)

  pub source_long : length (source_of (unit_opened (kind_of k) key o n m s)) ≡ source_length (unit_opened (kind_of k) key o n m s)
  source_long =
      let t = unit_opened (kind_of k) key o n m s in
      length_source_of t (ap (λ (j : ℕ). text_in_range j (source_length t)) opened_long ∙ range)

-- the source at the start of a text, behind its length
pub source_there : (t w : List ℕ) → take (2 + source_length t) w ≡ take (2 + source_length t) t → take (source_length t) (drop 2 w) ≡ source_of t
unfolding source_of
source_there t w e =
    let l = source_length t in
    sym (drop_take 2 l w) ∙ ap (drop 2) e ∙ drop_take 2 l t
