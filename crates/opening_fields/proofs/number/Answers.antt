-- The eight bytes behind tag and length.
use mathlib.Core.Path.{ap, ◌∙◌}
use native.Mathlib.Omega.{arith}
use lib.ListN.{take, drop_of_length-le}
use Rattle.bits.specs.Bytes.{number_of}
use Rattle.fields.specs.Field.{after_field, field_value}
use Rattle.opening_fields.specs.Opening.{opening_number}
use Rattle.fields.proofs.Values.{after_is}
use Rattle.opening_fields.proofs.number.Goals as goal

pub returns-then-s-lt3 : goal.returns-then-s-lt3
unfolding opening_number field_value number_of
returns-then-s-lt3 c =
    rw (drop_of_length-le c.args.s.now {i = 3} (omega arith))

pub returns : goal.returns
unfolding opening_number field_value after_field
returns c =
    c.of.ensures ∙ ap (λ r. number_of (take 8 r)) (after_is 0 c.args.s.now)
