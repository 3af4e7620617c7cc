-- The two lowest bytes of the length.
use mathlib.Core.Path.{ap, ◌∙◌}
use mathlib.Core.List.{List, [], ◌∷◌}
use Prim.Native.Nat.{ℕ}
use lib.ListN.{get_or}
use Rattle.fields.specs.Field.{field_head}
use Rattle.fields.proofs.HighFirst.{high_first_is}
use Rattle.fields.proofs.field.head.Goals as goal

pub returns : goal.returns
unfolding field_head
returns c =
    ap (λ (b : List ℕ). c.args.tag ∷ get_or b 6 0 ∷ get_or b 7 0 ∷ []) c.to_be_bytes-b.ensures
    ∙ ap (λ (b : List ℕ). c.args.tag ∷ b) (high_first_is 2 c.args.n)
