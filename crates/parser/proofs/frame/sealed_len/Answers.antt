-- Test by test.
use mathlib.Core.Path.{◌≡◌, sym, ap, ◌∙◌}
use mathlib.Core.Bool.{and-false}
use Prim.Native.Nat.{◌+◌}
use native.Mathlib.Omega.{arith}
use borrow.Author.Rules.{rules}
use lib.ListN.{length}
use Rattle.fields.specs.Field.{field_length, has_field, after_field}
use Rattle.fields.proofs.Reading.{length_is, bytes_missing}
use Rattle.fields.proofs.Fields.{field_told}
use Rattle.parser.specs.Frame.{ciphertext_allowed, has_sealed}
use Rattle.fields.proofs.Values.{found, missed, after_is}
use mathlib.Core.Bool.{Bool}
use mathlib.Core.List.{List}
use lib.ListN.{take, drop}
use Prim.Native.Nat.{ℕ, ◌-◌}
use Rattle.parser.proofs.frame.sealed_len.Goals as goal

-- field 12 is looked for in what follows field 11, whose length is the one that is read
second : (s : List ℕ) (m : ℕ) (b : Bool) → m ≡ field_length s → b ≡ has_field 0x12 16 (take (length s - (3 + m)) (drop (3 + m) s))
    → b ≡ has_field 0x12 16 (after_field (field_length s) s)
second s m b long e = e ∙ ap (has_field 0x12 16) (after_is m s) ∙ ap (λ l. has_field 0x12 16 (after_field l s)) long

pub returns-then-s-lt3 : goal.returns-then-s-lt3
unfolding has_sealed
returns-then-s-lt3 c =
    let s = c.args.s.now in
    rw (sym (bytes_missing 0x11 (field_length s) s (omega arith)), and-false)

pub returns-then-not-m : goal.returns-then-not-m
unfolding has_sealed
returns-then-not-m c =
    let s = c.args.s.now in
    rw (missed (ap ciphertext_allowed (c.pair-m.ensures ∙ length_is s (omega arith))) c.if-not-m.true)

pub returns-then-not-has : goal.returns-then-not-has
unfolding has_sealed
returns-then-not-has c =
    let s = c.args.s.now in
    let long : c.pair-m.result ≡ field_length s = c.pair-m.ensures ∙ length_is s (omega arith) in
    rw (found (ap ciphertext_allowed long) c.if-not-m.false, missed (c.has.ensures ∙ ap (λ m. has_field 0x11 m s) long) c.if-not-has.true)

pub slice_bounds-has-count : goal.slice_bounds-has-count
slice_bounds-has-count c =
    let room = (field_told 0x11 c.pair-m.result c.args.s.now (found c.has.ensures c.if-not-has.false)).0 in
    search rules

pub slice_bounds-has-start : goal.slice_bounds-has-start
slice_bounds-has-start c =
    let room = (field_told 0x11 c.pair-m.result c.args.s.now (found c.has.ensures c.if-not-has.false)).0 in
    search rules

pub returns-then-not-has-2 : goal.returns-then-not-has-2
unfolding has_sealed
returns-then-not-has-2 c =
    let s = c.args.s.now in
    let long : c.pair-m.result ≡ field_length s = c.pair-m.ensures ∙ length_is s (omega arith) in
    rw (found (ap ciphertext_allowed long) c.if-not-m.false, found (c.has.ensures ∙ ap (λ m. has_field 0x11 m s) long) c.if-not-has.false, missed (second s c.pair-m.result c.has-2.result long c.has-2.ensures) c.if-not-has-2.true)

pub returns : goal.returns
unfolding has_sealed
returns c =
    let s = c.args.s.now in
    let long : c.pair-m.result ≡ field_length s = c.pair-m.ensures ∙ length_is s (omega arith) in
    rw (found (ap ciphertext_allowed long) c.if-not-m.false, found (c.has.ensures ∙ ap (λ m. has_field 0x11 m s) long) c.if-not-has.false, found (second s c.pair-m.result c.has-2.result long c.has-2.ensures) c.if-not-has-2.false, long)
