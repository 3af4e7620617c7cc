-- All planes are there.
use mathlib.Core.Path.{◌≡◌}
use native.Mathlib.Omega.{arith}
use Rattle.bits.proofs.Elements.{replaced_all}
use Rattle.planes.proofs.columns.column.Goals as goal

pub returns : goal.returns
returns c =
    let all : c.loop-i.i ≡ 8 = omega arith in
    replaced_all 0 (rw all at c.loop-i.invariant)
