-- The number's bytes between the heads of the fields and the suite.
use mathlib.Core.Path.{ap, ◌∙◌}
use mathlib.Core.List.{List, [], ◌∷◌, ◌++◌}
use Prim.Native.Nat.{ℕ}
use Rattle.bits.specs.Bytes.{big_endian}
use Rattle.fields.specs.Field.{field, field_head}
use Rattle.fields.proofs.HighFirst.{high_first_is}
use Rattle.format.specs.Sealings.{opening_fields}
use Rattle.format.proofs.layout.opening.Goals as goal

pub returns : goal.returns
unfolding opening_fields field field_head big_endian
returns c =
    ap (λ (b : List ℕ). 1 ∷ 0 ∷ 8 ∷ (b ++ 2 ∷ 0 ∷ 2 ∷ c.args.suite.cipher ∷ c.args.suite.steps ∷ []))
    (c.copy_from_slice.ensures.after ∙ c.to_be_bytes.ensures ∙ high_first_is 8 c.args.number)
