-- The field's head takes the place of three bytes of the tag, which stands behind it then.
use mathlib.Core.Path.{◌≡◌, sym, ap, ◌∙◌}
use mathlib.Core.List.{List, ◌++◌}
use Prim.Native.Nat.{ℕ}
use native.Mathlib.Omega.{arith}
use lib.ListN.{length, take, drop}
use lib.Seq.{length-take-le, take-take}
use Rattle.fields.specs.Field.{field_head, field}
use Rattle.fields.proofs.Fields.{length_field_head}
use Rattle.format.proofs.Behind.{copied, front, later}
use Rattle.frames.proofs.put_tag.Goals as goal

pub returns : goal.returns
unfolding field
returns c =
    let out = c.args.out.now in
    let x = c.copy.new.d in
    let head : List ℕ = field_head 0x12 16 in
    let three : length head ≡ 3 = length_field_head 0x12 16 in
    let is : x ≡ head ++ drop 3 out = copied 3 head c.head-head.result out x three c.head-head.ensures c.copy.ensures in
    let tag : take 16 c.block_at-tag.result ≡ take 16 out = ap (take 16) c.block_at-tag.ensures ∙ take-take 16 16 out (omega arith) in
    c.put_at.ensures
    ∙ (λ j. (front 3 head out x three is j ++ tag j) ++ later 3 head out x three is 19 (omega arith) j)
    ∙ ap (λ (n : ℕ). (field_head 0x12 n ++ take 16 out) ++ drop 19 out) (sym (length-take-le 16 out (omega arith)))
