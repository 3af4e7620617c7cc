-- A field with the count alone.
use mathlib.Core.Path.{◌∙◌}
use mathlib.Core.List.{◌++◌, append-nil}
use native.Mathlib.Omega.{arith}
use Rattle.bits.specs.Bytes.{big_endian}
use Rattle.fields.specs.Field.{field}
use Rattle.format.specs.Sealings.{opening_fields, close_header}
use Rattle.format.proofs.layout.close_along.Goals as goal

pub returns-clause-is : goal.returns-clause-is
unfolding close_header
returns-clause-is c =
    let a = c.args in
    c.along_of.ensures.is
    ∙ (λ i. opening_fields a.suite a.number
    ++ field (c.close_tag.ensures i) (append-nil (big_endian (c.number_bytes.ensures.is i) a.n) i))

pub returns-clause-long : goal.returns-clause-long
returns-clause-long c = omega arith
