-- All rows have the planes put.
use mathlib.Core.List.{[]}
use mathlib.Core.Path.{◌≡◌}
use native.Mathlib.Omega.{arith}
use Rattle.bits.proofs.Elements.{replaced_all}
use Rattle.planes.specs.Planes.{with_column}
use Rattle.planes.proofs.columns.put_column.Goals as goal

pub returns : goal.returns
unfolding with_column
returns c =
    let all : c.loop-i.i ≡ 8 = omega arith in
    replaced_all [] (rw all at c.loop-i.invariant)
