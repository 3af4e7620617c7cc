-- Bytes are missing, or tag and length are compared.
use mathlib.Core.Path.{ap, ◌∙◌}
use mathlib.Core.Bool.{◌&&◌}
use native.Mathlib.Omega.{arith}
use lib.Dec.{eqb}
use lib.ListN.{get_or}
use Rattle.fields.proofs.Reading.{bytes_missing, field_there}
use Rattle.fields.proofs.field.has.Goals as goal

pub returns-then-room-lt3 : goal.returns-then-room-lt3
returns-then-room-lt3 c =
    let a = c.args in
    bytes_missing a.tag a.n a.s.now (omega arith)

pub returns-then-room-n : goal.returns-then-room-n
returns-then-room-n c =
    let a = c.args in
    bytes_missing a.tag a.n a.s.now (omega arith)

pub returns : goal.returns
returns c =
    let a = c.args in
    ap (λ m. eqb (get_or a.s.now 0 0) a.tag && eqb m a.n) c.pair.ensures ∙ field_there a.tag a.n a.s.now (omega arith)
