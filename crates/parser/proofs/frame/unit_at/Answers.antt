-- Test by test.
use Rattle.parser.specs.declared.frame.Frame.TheVariants.{Unit}
use Rattle.std.specs.Prelude.{cond, Option, Some, None, Ok, Err}
use Rattle.parser.specs.FrameAnswer.{FrameAnswer}
use mathlib.Core.Bool.{Bool, true, false}
use mathlib.Core.List.{List}
use mathlib.Core.Path.{◌≡◌, refl, sym, ap, ◌∙◌}
use Prim.Native.Nat.{ℕ, ◌+◌, ◌-◌}
use native.Mathlib.Omega.{arith}
use borrow.Author.Rules.{rules}
use borrow.Author.Tests.{eq-eqb, ne_eqb, lt-ltb, le-ltb}
use lib.ListN.{length, take, drop}
use Rattle.suites.specs.declared.refusal.Refusal.TheVariants.{FieldMalformed}
use Rattle.limits.specs.Tests.{unless}
use Rattle.fields.specs.Field.{field_length, after_field}
use Rattle.fields.proofs.Fields.{field_told}
use Rattle.kinds.specs.Kind.{kind_of}
use Rattle.kinds.proofs.Formed.{header_long}
use Rattle.kinds.specs.Lengths.{header_bytes}
use Rattle.parser.specs.Frame.{frame_number, after_header, has_sealed, unit_tests, frame_of}
use Rattle.fields.proofs.Values.{found, missed, after_is}
use Rattle.parser.proofs.Read.{field_is}
use Rattle.parser.proofs.frame.unit_at.Goals as goal

pub returns-then-not-has : goal.returns-then-not-has
unfolding unit_tests
returns-then-not-has c =
    rw (missed (field_is c.args.s.now c.has.ensures c.header_tag.ensures c.header_bytes.ensures.is) c.if-not-has.true)

pub returns-then-n-ge16777215 : goal.returns-then-n-ge16777215
unfolding unit_tests
returns-then-n-ge16777215 c =
    let s = c.args.s.now in
    let first = found (field_is s c.has.ensures c.header_tag.ensures c.header_bytes.ensures.is) c.if-not-has.false in
    rw (first, le-ltb c.args.n 16777215 c.if-n-ge16777215.true)

pub header_number-requires : goal.header_number-requires
header_number-requires c =
    let kind = kind_of c.args.kind in
    let s = c.args.s.now in
    let first = found (field_is s c.has.ensures c.header_tag.ensures c.header_bytes.ensures.is) c.if-not-has.false in
    let h = (field_told kind.header_tag (header_bytes kind) s first).0 in
    omega (arith, header_long c.args.kind)

pub returns-then-header_number-n : goal.returns-then-header_number-n
unfolding unit_tests
returns-then-header_number-n c =
    let kind = kind_of c.args.kind in
    let s = c.args.s.now in
    let n = c.args.n in
    let first = found (field_is s c.has.ensures c.header_tag.ensures c.header_bytes.ensures.is) c.if-not-has.false in
    let other = ne_eqb (frame_number kind s) n (λ q. c.if-header_number-n.true (c.header_number.ensures ∙ q)) in
    rw (first, lt-ltb n 16777215 c.if-n-ge16777215.false, other)

pub is_pair-requires : goal.is_pair-requires
is_pair-requires c =
    let kind = kind_of c.args.kind in
    let s = c.args.s.now in
    let first = found (field_is s c.has.ensures c.header_tag.ensures c.header_bytes.ensures.is) c.if-not-has.false in
    (field_told kind.header_tag (header_bytes kind) s first).0

pub returns-then-not-is_pair : goal.returns-then-not-is_pair
unfolding unit_tests
returns-then-not-is_pair c =
    let kind = kind_of c.args.kind in
    let s = c.args.s.now in
    let n = c.args.n in
    let first = found (field_is s c.has.ensures c.header_tag.ensures c.header_bytes.ensures.is) c.if-not-has.false in
    let third = eq-eqb (frame_number kind s) n (sym c.header_number.ensures ∙ c.if-header_number-n.false) in
    rw (first, lt-ltb n 16777215 c.if-n-ge16777215.false, third, missed c.is_pair.ensures c.if-not-is_pair.true)

pub slice_bounds-sealed_len-count : goal.slice_bounds-sealed_len-count
slice_bounds-sealed_len-count c =
    let kind = kind_of c.args.kind in
    let s = c.args.s.now in
    let first = found (field_is s c.has.ensures c.header_tag.ensures c.header_bytes.ensures.is) c.if-not-has.false in
    let h = (field_told kind.header_tag (header_bytes kind) s first).0 in
    search rules

pub slice_bounds-sealed_len-start : goal.slice_bounds-sealed_len-start
slice_bounds-sealed_len-start c =
    let kind = kind_of c.args.kind in
    let s = c.args.s.now in
    let first = found (field_is s c.has.ensures c.header_tag.ensures c.header_bytes.ensures.is) c.if-not-has.false in
    let h = (field_told kind.header_tag (header_bytes kind) s first).0 in
    search rules

-- fields 11 and 12 as they were looked for
sealed : (s : List ℕ) (bytes end : ℕ) (m : Option ℕ) → end ≡ 3 + bytes
    → m ≡ cond (has_sealed (take (length s - end) (drop end s))) (Some (field_length (take (length s - end) (drop end s)))) None
    → m ≡ cond (has_sealed (after_field bytes s)) (Some (field_length (after_field bytes s))) None
sealed s bytes end m at e =
    e ∙ ap (λ r. cond (has_sealed r) (Some (field_length r)) None)
    (ap (λ k. take (length s - k) (drop k s)) at ∙ after_is bytes s)

of_some : (b : Bool) (k m : ℕ) → Some k ≡ cond b (Some m) None → ◌≡◌ {A = FrameAnswer} (Ok (Unit k)) (frame_of (unless b FieldMalformed (Ok tt)) (Ok (Unit m)))
of_some true k m e = cc
of_some false k m e = let z : ◌≡◌ {A = ℕ} 0 1 = cc in absurd (omega arith)

of_none : (b : Bool) (m : ℕ) → None ≡ cond b (Some m) None → ◌≡◌ {A = FrameAnswer} (Err FieldMalformed) (frame_of (unless b FieldMalformed (Ok tt)) (Ok (Unit m)))
of_none true m e = let z : ◌≡◌ {A = ℕ} 0 1 = cc in absurd (omega arith)
of_none false m e = refl

pub returns-in-Some : goal.returns-in-Some
unfolding unit_tests after_header
returns-in-Some c =
    let kind = kind_of c.args.kind in
    let s = c.args.s.now in
    let n = c.args.n in
    let first = found (field_is s c.has.ensures c.header_tag.ensures c.header_bytes.ensures.is) c.if-not-has.false in
    let third = eq-eqb (frame_number kind s) n (sym c.header_number.ensures ∙ c.if-header_number-n.false) in
    rw (first, lt-ltb n 16777215 c.if-n-ge16777215.false, third, found c.is_pair.ensures c.if-not-is_pair.false)
    (of_some (has_sealed (after_field (header_bytes kind) s)) c.in-Some.m (field_length (after_field (header_bytes kind) s))
    (sealed s (header_bytes kind) c.header_len-end.result (Some c.in-Some.m) c.header_len-end.ensures.is c.in-Some.ensures))

pub returns-in-None : goal.returns-in-None
unfolding unit_tests after_header
returns-in-None c =
    let kind = kind_of c.args.kind in
    let s = c.args.s.now in
    let n = c.args.n in
    let first = found (field_is s c.has.ensures c.header_tag.ensures c.header_bytes.ensures.is) c.if-not-has.false in
    let third = eq-eqb (frame_number kind s) n (sym c.header_number.ensures ∙ c.if-header_number-n.false) in
    rw (first, lt-ltb n 16777215 c.if-n-ge16777215.false, third, found c.is_pair.ensures c.if-not-is_pair.false)
    (of_none (has_sealed (after_field (header_bytes kind) s)) (field_length (after_field (header_bytes kind) s))
    (sealed s (header_bytes kind) c.header_len-end.result None c.header_len-end.ensures.is c.in-None.ensures))
