-- Test by test, as for the frame.
use Rattle.parser.specs.declared.frame.Frame.TheVariants.{Unit}
use Rattle.std.specs.Prelude.{cond, Option, Some, None, Ok}
use mathlib.Core.Path.{◌≡◌, sym, ap, ◌∙◌}
use Prim.Native.Nat.{ℕ, ◌+◌, ◌-◌}
use native.Mathlib.Omega.{arith}
use borrow.Author.Rules.{rules}
use borrow.Author.Tests.{eq-eqb, ne_eqb, lt-ltb, le-ltb}
use lib.ListN.{length, take, drop}
use Rattle.suites.specs.declared.refusal.Refusal.TheVariants.{FieldMalformed}
use Rattle.limits.specs.Tests.{unless}
use Rattle.fields.specs.Field.{field_length, after_field}
use Rattle.fields.proofs.Fields.{field_told}
use Rattle.kinds.specs.Kind.{kind_of}
use Rattle.kinds.proofs.Formed.{formed, header_long}
use Rattle.kinds.specs.Lengths.{header_bytes}
use Rattle.parser.specs.Frame.{frame_number, after_header, has_sealed, unit_tests, frame_of, frame_at, ciphertext_of}
use Rattle.fields.proofs.Values.{found, missed, after_is}
use Rattle.parser.proofs.Frames.{ciphertext_by_unit, ciphertext_there}
use mathlib.Core.List.{List}
use Rattle.kinds.specs.declared.Kind.{Kind as BookKind}
use Rattle.parser.proofs.Read.{field_is}
use Rattle.parser.proofs.frame.ciphertext_len.Goals as goal

-- what a unit's tests give is what the frame gives
by_unit : (kind : BookKind) (n : ℕ) (s : List ℕ) (m : Option ℕ)
    → m ≡ ciphertext_of (frame_of (unit_tests (kind_of kind) n s) (Ok (Unit (field_length (after_header (kind_of kind) s)))))
    → m ≡ ciphertext_of (frame_at (kind_of kind) n s)
by_unit kind n s m e = e ∙ sym (ciphertext_by_unit (kind_of kind) (formed kind) n s)

-- and behind the header, where fields 11 and 12 were looked for
sealed : (s : List ℕ) (bytes end : ℕ) (m : Option ℕ) → end ≡ 3 + bytes
    → m ≡ cond (has_sealed (take (length s - end) (drop end s))) (Some (field_length (take (length s - end) (drop end s)))) None
    → m ≡ ciphertext_of (frame_of (unless (has_sealed (after_field bytes s)) FieldMalformed (Ok tt)) (Ok (Unit (field_length (after_field bytes s)))))
sealed s bytes end m at e =
    e ∙ ap (λ r. cond (has_sealed r) (Some (field_length r)) None)
    (ap (λ k. take (length s - k) (drop k s)) at ∙ after_is bytes s)
    ∙ ciphertext_there (has_sealed (after_field bytes s)) (field_length (after_field bytes s))

pub returns-then-not-has : goal.returns-then-not-has
unfolding unit_tests
returns-then-not-has c =
    by_unit c.args.kind c.args.n c.args.s.now None (rw (missed (field_is c.args.s.now c.has.ensures c.header_tag.ensures c.header_bytes.ensures.is) c.if-not-has.true))

pub returns-then-n-ge16777215 : goal.returns-then-n-ge16777215
unfolding unit_tests
returns-then-n-ge16777215 c =
    let s = c.args.s.now in
    let first = found (field_is s c.has.ensures c.header_tag.ensures c.header_bytes.ensures.is) c.if-not-has.false in
    by_unit c.args.kind c.args.n c.args.s.now None (rw (first, le-ltb c.args.n 16777215 c.if-n-ge16777215.true))

pub header_number-requires : goal.header_number-requires
header_number-requires c =
    let kind = kind_of c.args.kind in
    let s = c.args.s.now in
    let first = found (field_is s c.has.ensures c.header_tag.ensures c.header_bytes.ensures.is) c.if-not-has.false in
    let h = (field_told kind.header_tag (header_bytes kind) s first).0 in
    omega (arith, header_long c.args.kind)

pub returns-then-header_number-n : goal.returns-then-header_number-n
unfolding unit_tests
returns-then-header_number-n c =
    let kind = kind_of c.args.kind in
    let s = c.args.s.now in
    let n = c.args.n in
    let first = found (field_is s c.has.ensures c.header_tag.ensures c.header_bytes.ensures.is) c.if-not-has.false in
    by_unit c.args.kind c.args.n c.args.s.now None (rw (first, lt-ltb n 16777215 c.if-n-ge16777215.false, ne_eqb (frame_number kind s) n (λ q. c.if-header_number-n.true (c.header_number.ensures ∙ q))))

pub is_pair-requires : goal.is_pair-requires
is_pair-requires c =
    let kind = kind_of c.args.kind in
    let s = c.args.s.now in
    let first = found (field_is s c.has.ensures c.header_tag.ensures c.header_bytes.ensures.is) c.if-not-has.false in
    (field_told kind.header_tag (header_bytes kind) s first).0

pub returns-then-not-is_pair : goal.returns-then-not-is_pair
unfolding unit_tests
returns-then-not-is_pair c =
    let kind = kind_of c.args.kind in
    let s = c.args.s.now in
    let n = c.args.n in
    let first = found (field_is s c.has.ensures c.header_tag.ensures c.header_bytes.ensures.is) c.if-not-has.false in
    let third = eq-eqb (frame_number kind s) n (sym c.header_number.ensures ∙ c.if-header_number-n.false) in
    by_unit c.args.kind c.args.n c.args.s.now None (rw (first, lt-ltb n 16777215 c.if-n-ge16777215.false, third, missed c.is_pair.ensures c.if-not-is_pair.true))

pub slice_bounds-sealed_len-count : goal.slice_bounds-sealed_len-count
slice_bounds-sealed_len-count c =
    let kind = kind_of c.args.kind in
    let s = c.args.s.now in
    let first = found (field_is s c.has.ensures c.header_tag.ensures c.header_bytes.ensures.is) c.if-not-has.false in
    let h = (field_told kind.header_tag (header_bytes kind) s first).0 in
    search rules

pub slice_bounds-sealed_len-start : goal.slice_bounds-sealed_len-start
slice_bounds-sealed_len-start c =
    let kind = kind_of c.args.kind in
    let s = c.args.s.now in
    let first = found (field_is s c.has.ensures c.header_tag.ensures c.header_bytes.ensures.is) c.if-not-has.false in
    let h = (field_told kind.header_tag (header_bytes kind) s first).0 in
    search rules

pub returns : goal.returns
unfolding unit_tests after_header
returns c =
    let kind = kind_of c.args.kind in
    let s = c.args.s.now in
    let n = c.args.n in
    let first = found (field_is s c.has.ensures c.header_tag.ensures c.header_bytes.ensures.is) c.if-not-has.false in
    let third = eq-eqb (frame_number kind s) n (sym c.header_number.ensures ∙ c.if-header_number-n.false) in
    by_unit c.args.kind n s c.sealed_len.result
    (rw (first, lt-ltb n 16777215 c.if-n-ge16777215.false, third, found c.is_pair.ensures c.if-not-is_pair.false)
    (sealed s (header_bytes kind) c.header_len-end.result c.sealed_len.result c.header_len-end.ensures.is c.sealed_len.ensures))
