-- A book cut before one of its units, and before that unit's ciphertext.
use mathlib.Core.Path.{◌≡◌, ap, ◌∙◌}
use mathlib.Core.List.{List, ◌∷◌, ◌++◌, append_assoc}
use Prim.Native.Nat.{ℕ, suc, ◌+◌}
use native.Mathlib.Nat.{zero-add}
use native.Mathlib.Omega.{arith}
use lib.ListN.{length, take, drop, length-append}
use lib.Seq.{length-take-le}
use Rattle.suites.specs.declared.suite.Suite.{Suite}
use Rattle.fields.specs.Field.{field_head, field}
use Rattle.fields.specs.Kind.{Kind}
use Rattle.fields.specs.Unit.{BookUnit, Allowed, details_of, unit_text}
use Rattle.fields.proofs.Details.{length_details_of}
use Rattle.fields.proofs.Fields.{length_field_head}
use Rattle.fields.proofs.Texts.{length_unit_text}
use Rattle.format.specs.Layout.{sealed_fields, unit_bytes, close_bytes, units_bytes, book_bytes}
use Rattle.format.specs.Sealings.{opening_fields, unit_header, unit_sealing, sealed_bytes}
use Rattle.format.proofs.Lengths.{length_opening_fields, length_unit_header, length_unit_sealed, units_bytes_append}
use Rattle.kinds.specs.Lengths.{ciphertext_at}

-- a field whose value has m bytes
field_at : (tag m : ℕ) (v : List ℕ) → length v ≡ m → field tag v ≡ field_head tag m ++ v
unfolding field
field_at tag m v e = ap (λ (k : ℕ). field_head tag k ++ v) e

module _ (kind : Kind) (suite : Suite) (key : List ℕ) (number : ℕ) (before : List BookUnit) (u : BookUnit) where
  -- the units before it, in bytes
  abbrev units : List ℕ
  units = units_bytes kind suite key number 0 before

  -- what stands behind it
  abbrev pub behind : List BookUnit → List ℕ
  behind after = units_bytes kind suite key number (suc (length before)) after ++ close_bytes kind suite key number (length (before ++ u ∷ after))

  pub book_cut : (after : List BookUnit)
      → book_bytes kind suite key number (before ++ u ∷ after)
      ≡ opening_fields suite number ++ (units ++ (unit_bytes kind suite key number (length before) u ++ behind after))
  unfolding book_bytes units_bytes
  book_cut after =
      let close = close_bytes kind suite key number (length (before ++ u ∷ after)) in
      ap (λ (y : List ℕ). opening_fields suite number ++ (y ++ close))
      (units_bytes_append kind suite key number 0 before (u ∷ after)
      ∙ ap (λ (n : ℕ). units ++ units_bytes kind suite key number n (u ∷ after)) (zero-add (length before)))
      ∙ simp append_assoc

  -- its text's length, and its sealed bytes
  abbrev m : ℕ
  m = length (unit_text u.source u.target)

  abbrev sealed : List ℕ
  sealed = sealed_bytes suite key (unit_sealing kind suite number (length before) u)

  -- what stands before its ciphertext
  abbrev pub front : List ℕ
  front = opening_fields suite number ++ (units ++ (unit_header kind (length before) (details_of kind u) ++ field_head 0x11 m))

  pub length_front : Allowed kind (length before) u → length front ≡ 16 + length units + ciphertext_at kind
  length_front a =
      simp length-append
      (omega (
        arith,
        length_opening_fields suite number,
        length_unit_header kind (length before) (details_of kind u),
        length_details_of kind u a.given,
        length_field_head 0x11 m,
      ))

  pub length_ciphertext : length (take m sealed) ≡ m
  length_ciphertext =
      length-take-le m sealed (omega (arith, length_unit_text u.source u.target, length_unit_sealed kind suite key number (length before) u))

  pub front_is : (rest : List ℕ) → opening_fields suite number ++ (units ++ (unit_bytes kind suite key number (length before) u ++ rest))
      ≡ front ++ (take m sealed ++ (field 0x12 (drop m sealed) ++ rest))
  unfolding unit_bytes sealed_fields
  front_is rest =
      let header = unit_header kind (length before) (details_of kind u) in
      ap (λ (y : List ℕ). opening_fields suite number ++ (units ++ ((header ++ (y ++ field 0x12 (drop m sealed))) ++ rest)))
      (field_at 0x11 m (take m sealed) length_ciphertext)
      ∙ simp append_assoc
