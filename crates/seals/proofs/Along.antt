-- The header that is read is the one that was written, and so is what is sealed along.
use mathlib.Core.Path.{◌≡◌, ap, ◌∙◌}
use mathlib.Core.List.{List, ◌++◌}
use Prim.Native.Nat.{ℕ}
use native.Mathlib.Omega.{arith}
use lib.ListN.{length, length-append}
use lib.Seq.{take_at}
use Rattle.bits.specs.Bytes.{Bytes}
use Rattle.fields.specs.Field.{field}
use Rattle.fields.specs.Kind.{Kind}
use Rattle.fields.specs.Unit.{details_length}
use Rattle.kinds.specs.Lengths.{header_length, close_header_length}
use Rattle.format.specs.Layout.{sealed_fields}
use Rattle.format.specs.Sealings.{unit_header, close_header}
use Rattle.format.proofs.Lengths.{length_unit_header, length_close_header}
use Rattle.parser.specs.Frame.{frame_details, frame_from, frame_to, frame_sealed, after_unit, close_sealed, after_close}
use Rattle.parser.proofs.Frames.{UnitTold, CloseTold}
use Rattle.seals.specs.Seal.{unit_along, close_along}

module _ (kind : Kind) (o : List ℕ) (n : ℕ) where
  -- of a header that is written
  pub unit_along_here : (d rest : List ℕ) → length d ≡ details_length kind → unit_along kind o (unit_header kind n d ++ rest) ≡ o ++ unit_header kind n d
  unfolding unit_along
  unit_along_here d rest long =
      ap (λ (h : List ℕ). o ++ h) (take_at (unit_header kind n d) rest (header_length kind) (length_unit_header kind n d ∙ omega arith))

  pub close_along_here : (rest : List ℕ) → close_along kind o (close_header kind n ++ rest) ≡ o ++ close_header kind n
  unfolding close_along
  close_along_here rest =
      ap (λ (h : List ℕ). o ++ h) (take_at (close_header kind n) rest (close_header_length kind) (length_close_header kind n ∙ omega arith))

  -- and of one that is read
  pub unit_along_lem : (m : ℕ) (s : List ℕ) → Bytes s → UnitTold kind n m s → unit_along kind o s ≡ o ++ unit_header kind n (frame_details kind s)
  unit_along_lem m s b told =
      let d = frame_details kind s in
      let long : length d ≡ details_length kind =
      ap length told.details ∙ length-append (frame_from kind s) (frame_to kind s) ∙ omega (arith, told.from_long, told.to_long) in
      ap (unit_along kind o) (told.written b) ∙ unit_along_here d (sealed_fields m (frame_sealed kind m s) ++ after_unit kind m s) long

  pub close_along_lem : (s : List ℕ) → Bytes s → CloseTold kind n s → close_along kind o s ≡ o ++ close_header kind n
  close_along_lem s b told = ap (close_along kind o) (told.written b) ∙ close_along_here (field 0x12 (close_sealed kind s) ++ after_close kind s)
