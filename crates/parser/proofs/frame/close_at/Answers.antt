-- Test by test.
use mathlib.Core.Path.{◌≡◌, ap, ◌∙◌}
use Prim.Native.Nat.{◌-◌}
use native.Mathlib.Omega.{arith}
use borrow.Author.Rules.{rules}
use lib.ListN.{length, take, drop, length-drop}
use Rattle.fields.specs.Field.{has_field, after_field}
use Rattle.fields.proofs.Fields.{field_told}
use Rattle.kinds.specs.Kind.{kind_of}
use Rattle.parser.specs.Frame.{close_tests}
use Rattle.fields.proofs.Values.{found, missed, after_is}
use mathlib.Core.Bool.{Bool}
use mathlib.Core.List.{List}
use Prim.Native.Nat.{ℕ, ◌+◌}
use Rattle.parser.proofs.Read.{field_is}
use Rattle.parser.proofs.frame.close_at.Goals as goal

-- field 12 is looked for behind the first
second : (s : List ℕ) (bytes after : ℕ) (b : Bool) → after ≡ 3 + bytes → b ≡ has_field 0x12 16 (take (length s - after) (drop after s))
    → b ≡ has_field 0x12 16 (after_field bytes s)
second s bytes after b at e =
    e ∙ ap (λ n. has_field 0x12 16 (take (length s - n) (drop n s))) at ∙ ap (has_field 0x12 16) (after_is bytes s)

pub returns-then-not-has : goal.returns-then-not-has
unfolding close_tests
returns-then-not-has c = rw (missed (field_is c.args.s.now c.has.ensures c.close_tag.ensures c.number_bytes.ensures.is) c.if-not-has.true)

pub slice_bounds-has-count : goal.slice_bounds-has-count
slice_bounds-has-count c =
    let kind = kind_of c.args.kind in
    let s = c.args.s.now in
    let first = found (field_is s c.has.ensures c.close_tag.ensures c.number_bytes.ensures.is) c.if-not-has.false in
    let h = (field_told kind.close_tag kind.number_bytes s first).0 in
    search rules

pub slice_bounds-has-start : goal.slice_bounds-has-start
slice_bounds-has-start c =
    let kind = kind_of c.args.kind in
    let s = c.args.s.now in
    let first = found (field_is s c.has.ensures c.close_tag.ensures c.number_bytes.ensures.is) c.if-not-has.false in
    let h = (field_told kind.close_tag kind.number_bytes s first).0 in
    search rules

pub returns-then-not-has-2 : goal.returns-then-not-has-2
unfolding close_tests
returns-then-not-has-2 c =
    let kind = kind_of c.args.kind in
    let s = c.args.s.now in
    let first = found (field_is s c.has.ensures c.close_tag.ensures c.number_bytes.ensures.is) c.if-not-has.false in
    rw (first, missed (second s kind.number_bytes c.close_header_len-after.result c.has-2.result c.close_header_len-after.ensures.is c.has-2.ensures) c.if-not-has-2.true)

-- the tag behind it has 16 bytes
pub header_number-count-requires : goal.header_number-count-requires
unfolding after_field
header_number-count-requires c =
    let bytes = (kind_of c.args.kind).number_bytes in
    let s = c.args.s.now in
    let looked = second s bytes c.close_header_len-after.result c.has-2.result c.close_header_len-after.ensures.is c.has-2.ensures in
    let h = (field_told 0x12 16 (after_field bytes s) (found looked c.if-not-has-2.false)).0 in
    omega (arith, length-drop (3 + bytes) s)
