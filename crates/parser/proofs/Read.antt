-- What the code reads: a field that is looked for, the number of a unit's header or of a close, and the codes of a header.
use mathlib.Core.Path.{◌≡◌, sym, ap, ◌∙◌}
use mathlib.Core.Bool.{Bool}
use mathlib.Core.List.{List, [], ◌∷◌}
use Prim.Native.Nat.{ℕ, ◌+◌, ◌≤◌}
use native.Mathlib.Omega.{arith}
use lib.ListN.{length, get_or, take, drop, length-drop}
use lib.Seq.{length-take-le, take-take, take-add, drop_at, drop-drop}
use Rattle.bits.proofs.Lists.{part_at}
use Rattle.fields.specs.Field.{has_field}
use Rattle.fields.specs.Kind.{Kind}
use Rattle.fields.specs.Unit.{details_length}
use Rattle.kinds.specs.declared.Kind.{Kind as BookKind}
use Rattle.kinds.specs.Kind.{kind_of}
use Rattle.kinds.specs.Lengths.{header_length, codes_at}
use Rattle.kinds.proofs.Formed.{two_letters}
use Rattle.parser.specs.Frame.{frame_details, frame_from, frame_to}

-- a field that is looked for by a tag and a length
pub field_is : {b : Bool} {tag tag' len len' : ℕ} (s : List ℕ) → b ≡ has_field tag len s → tag ≡ tag' → len ≡ len' → b ≡ has_field tag' len' s
field_is s e t l = e ∙ (λ i. has_field (t i) (l i) s)

-- the codes in a unit's header
module _ (kind : Kind) (s : List ℕ) (long : header_length kind ≤ length s) where
  from_is : frame_from kind s ≡ take kind.code_bytes (drop (codes_at kind) s)
  unfolding frame_from frame_details
  from_is = take-take kind.code_bytes (details_length kind) (drop (3 + kind.number_bytes) s) (omega arith)

  to_is : frame_to kind s ≡ take kind.code_bytes (drop (codes_at kind + kind.code_bytes) s)
  unfolding frame_to frame_details
  to_is =
      let k = kind.code_bytes in
      let d = drop (3 + kind.number_bytes) s in
      let two : details_length kind ≡ k + k = omega arith in
      let first : length (take k d) ≡ k = length-take-le k d (rw length-drop (omega arith)) in
      ap (λ (n : ℕ). take k (drop k (take n d))) two
      ∙ ap (λ (l : List ℕ). take k (drop k l)) (take-add k k d)
      ∙ ap (take k) (drop_at (take k d) (take k (drop k d)) k first)
      ∙ take-take k k (drop k d) (omega arith)
      ∙ ap (take k) (drop-drop k (3 + kind.number_bytes) s)

-- two letters at a place
letters_at : (s : List ℕ) (at : ℕ) → at + 2 ≤ length s → get_or s at 0 ∷ get_or s (at + 1) 0 ∷ [] ≡ take 2 (drop at s)
letters_at s at h =
    let z : at ≡ at + 0 = omega arith in
    ap (λ (i : ℕ). get_or s i 0 ∷ get_or s (at + 1) 0 ∷ []) z ∙ part_at 2 s at h

-- both codes of a unit's header, where they stand
module _ (k : BookKind) (s : List ℕ) (long : header_length (kind_of k) ≤ length s) (at : ℕ) where
  pub from_letters : at ≡ codes_at (kind_of k) → get_or s at 0 ∷ get_or s (at + 1) 0 ∷ [] ≡ frame_from (kind_of k) s
  from_letters e =
      let two = two_letters k in
      letters_at s at (omega arith)
      ∙ (λ i. take (sym two i) (drop (e i) s))
      ∙ sym (from_is (kind_of k) s long)

  pub to_letters : at ≡ codes_at (kind_of k) + (kind_of k).code_bytes → get_or s at 0 ∷ get_or s (at + 1) 0 ∷ [] ≡ frame_to (kind_of k) s
  to_letters e =
      let two = two_letters k in
      letters_at s at (omega arith)
      ∙ (λ i. take (sym two i) (drop (e i) s))
      ∙ sym (to_is (kind_of k) s long)
