-- The close: what is read was written, and what was written is read.
use Rattle.suites.specs.Answer.{Answer}
use Rattle.parser.specs.FrameAnswer.{FrameAnswer}
use Rattle.parser.specs.declared.frame.Frame.TheVariants.{Close}
use Rattle.std.specs.Prelude.{Ok}
use mathlib.Core.Path.{◌≡◌, sym, ap, ◌∙◌}
use mathlib.Core.Bool.{true}
use mathlib.Core.List.{List, [], ◌++◌, append-nil}
use Prim.Native.Nat.{ℕ, ◌^◌, ◌<◌}
use borrow.Author.Tests.{eqb-true}
use lib.Dec.{eqb}
use lib.ListN.{length}
use Rattle.bits.specs.Bytes.{Bytes}
use Rattle.bits.proofs.Bytes.{bytes_nil}
use Rattle.suites.specs.declared.refusal.Refusal.TheVariants.{TagDiffers, FieldMalformed}
use Rattle.suites.specs.declared.suite.Suite.{Suite}
use Rattle.limits.specs.Tests.{unless}
use Rattle.limits.proofs.Passed.{unless_passed}
use Rattle.fields.specs.Field.{field, after_field}
use Rattle.fields.specs.Kind.{Kind, WellFormed}
use Rattle.format.specs.Layout.{close_bytes}
use Rattle.format.specs.Sealings.{opening_fields, close_header, close_sealing, sealed_bytes}
use Rattle.format.proofs.Lengths.{length_close_sealed}
use Rattle.parser.specs.Frame.{close_sealed, after_close, frame_of, frame_at}
use Rattle.opening_fields.specs.Opening.{opening_number, opening_suite}
use Rattle.fields.proofs.Values.{bytes_value, bytes_after}
use Rattle.parser.proofs.Frames.{close_here, CloseTold, close_told}
use Rattle.seals.specs.Seal.{close_along, close_agrees, unit_seal_tests, close_seal_tests}
use Rattle.seals.proofs.Along.{close_along_lem, close_along_here}
use Rattle.seals.proofs.Seals.{sealed_at, opened_at, agrees_at, text_told, text_here, none_left}
use Rattle.checker.specs.Check.{with_seal, checked_at}
use Rattle.checker.proofs.Sealed.{close_sealed_lem}

bytes_sealed : (kind : Kind) (s : List ℕ) → Bytes s → Bytes (close_sealed kind s)
unfolding close_sealed
bytes_sealed kind s b = bytes_value 16 (after_field kind.number_bytes s) (bytes_after kind.number_bytes s b)

-- under the opening fields o, as a writer makes them
module _ (kind : Kind) (key o : List ℕ) (held : o ≡ opening_fields (opening_suite o) (opening_number o)) (long : length key ≡ 16) (key_bytes : Bytes key)
    (n : ℕ) where
  -- what the opening fields say
  abbrev suite : Suite
  suite = opening_suite o

  abbrev number : ℕ
  number = opening_number o

  -- the sealed bytes of a close that is read: its text is empty
  close-image : (s : List ℕ) → Bytes s → CloseTold kind n s → close_agrees kind key o n s ≡ true
      → close_sealed kind s ≡ sealed_bytes suite key (close_sealing kind suite number n)
  unfolding close_agrees sealed_bytes close_sealing
  close-image s b told ok =
      let h : List ℕ = close_along kind o s in
      let x : List ℕ = close_sealed kind s in
      let t = text_told suite key number n h long key_bytes x 0 (bytes_sealed kind s b) told.sealed_long ok in
      let along = close_along_lem kind o n s b told ∙ ap (λ (f : List ℕ). f ++ close_header kind n) held in
      sym t.1 ∙ (λ i. sealed_at suite key number n (along i) (none_left (opened_at suite key number n h x) t.2 i))

  pub close_read : (s : List ℕ) → Bytes s → checked_at kind key o n s ≡ Ok Close → (s ≡ close_bytes kind suite key number n) × (n < 256 ^ kind.number_bytes)
  unfolding checked_at close_seal_tests close_bytes
  close_read s b e =
      let both = close_sealed_lem (λ (k : ℕ). unit_seal_tests kind key o n k s) (close_seal_tests kind key o n s) (frame_at kind n s) e in
      let told = close_told kind n s both.0 in
      let tag = unless_passed (close_agrees kind key o n s) TagDiffers (unless (eqb (length (after_close kind s)) 0) FieldMalformed (Ok tt)) both.1 in
      let end = unless_passed (eqb (length (after_close kind s)) 0) FieldMalformed (Ok tt) tag.1 in
      let none : after_close kind s ≡ [] = none_left (after_close kind s) (eqb-true (length (after_close kind s)) 0 end.0) in
      let x : List ℕ = sealed_bytes suite key (close_sealing kind suite number n) in (
        told.written b
            ∙ (λ i. close_header kind n ++ (field 0x12 (close-image s b told tag.0 i) ++ none i))
            ∙ ap (λ (r : List ℕ). close_header kind n ++ r) (append-nil (field 0x12 x)),
        told.fits b,
      )

  pub close_written : WellFormed kind → n < 256 ^ kind.number_bytes → checked_at kind key o n (close_bytes kind suite key number n) ≡ Ok Close
  unfolding checked_at close_seal_tests close_bytes close_agrees sealed_bytes close_sealing
  close_written wf fits =
      let h : List ℕ = opening_fields suite number ++ close_header kind n in
      let x : List ℕ = sealed_bytes suite key (close_sealing kind suite number n) in
      let s : List ℕ = close_header kind n ++ (field 0x12 x ++ []) in
      let back = close_here kind wf n x [] fits (length_close_sealed kind suite key number n) in
      let along = close_along_here kind o n (field 0x12 x ++ []) ∙ ap (λ (f : List ℕ). f ++ close_header kind n) held in
      let agreed : close_agrees kind key o n s ≡ true =
      (λ i. agrees_at suite key number n (along i) (back.1 i)) ∙ (text_here suite key number n h long key_bytes [] bytes_nil).0 in
      let done : close_seal_tests kind key o n s ≡ (Ok tt) = λ i. unless (agreed i) TagDiffers (unless (eqb (length (back.2 i)) 0) FieldMalformed (Ok tt)) in
      ap (λ (r : List ℕ). checked_at kind key o n (close_header kind n ++ r)) (sym (append-nil (field 0x12 x)))
      ∙ ap (λ (f : FrameAnswer). with_seal f (λ (k : ℕ). unit_seal_tests kind key o n k s) (close_seal_tests kind key o n s)) back.0
      ∙ ap (λ (a : Answer). frame_of a (Ok Close)) done
