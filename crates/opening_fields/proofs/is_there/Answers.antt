-- Field 02 is looked for in what follows field 01.
use mathlib.Core.Path.{◌≡◌, ap, ◌∙◌}
use mathlib.Core.Bool.{true}
use Prim.Native.Nat.{◌≤◌}
use borrow.Author.Rules.{rules}
use lib.ListN.{length}
use Rattle.fields.specs.Field.{has_field}
use Rattle.fields.proofs.Fields.{field_told}
use Rattle.opening_fields.specs.Opening.{has_opening}
use Rattle.fields.proofs.Values.{found, missed, after_is}
use Rattle.opening_fields.proofs.is_there.Goals as goal

pub returns-then-not-has : goal.returns-then-not-has
unfolding has_opening
returns-then-not-has c =
    rw (missed c.has.ensures c.if-not-has.true)

pub slice_bounds-has-count : goal.slice_bounds-has-count
slice_bounds-has-count c =
    let first : has_field 0x01 8 c.args.s.now ≡ true = found c.has.ensures c.if-not-has.false in
    let room : 11 ≤ length c.args.s.now = (field_told 0x01 8 c.args.s.now (first)).0 in
    let h = room in search rules

pub slice_bounds-has-start : goal.slice_bounds-has-start
slice_bounds-has-start c =
    let first : has_field 0x01 8 c.args.s.now ≡ true = found c.has.ensures c.if-not-has.false in
    let room : 11 ≤ length c.args.s.now = (field_told 0x01 8 c.args.s.now (first)).0 in
    let h = room in search rules

pub returns : goal.returns
unfolding has_opening
returns c =
    let first : has_field 0x01 8 c.args.s.now ≡ true = found c.has.ensures c.if-not-has.false in
    let e = c in
    rw (first) (c.has-2.ensures ∙ ap (has_field 0x02 2) (after_is 8 e.args.s.now))
