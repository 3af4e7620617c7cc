-- A field with the number and the codes.
use mathlib.Core.Path.{◌∙◌}
use mathlib.Core.List.{◌++◌}
use native.Mathlib.Omega.{arith}
use Rattle.bits.specs.Bytes.{big_endian}
use Rattle.bits.proofs.Lists.{tab_get_or}
use Rattle.fields.specs.Field.{field}
use Rattle.kinds.proofs.Formed.{two_letters}
use Rattle.format.specs.Sealings.{opening_fields, unit_header}
use Rattle.format.proofs.layout.unit_along.Goals as goal

pub returns-clause-is : goal.returns-clause-is
unfolding unit_header
returns-clause-is c =
    let a = c.args in
    c.along_of.ensures.is
    ∙ (λ i. opening_fields a.suite a.number
    ++ field (c.header_tag.ensures i) (big_endian (c.number_bytes.ensures.is i) a.n
    ++ (tab_get_or 2 a.from c.well_formed.1.1.1.1.0.1.0.1 i ++ tab_get_or 2 a.to c.well_formed.1.1.1.1.1.0.1.0.1 i)))

pub returns-clause-long : goal.returns-clause-long
returns-clause-long c = omega (arith, two_letters c.args.kind)
