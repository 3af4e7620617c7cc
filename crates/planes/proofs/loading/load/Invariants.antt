-- The first i rows are read.
use Rattle.planes.proofs.Reading.{Read}
use Rattle.planes.proofs.loading.load.Given as goal

abbrev pub invariant-loop-i : goal.invariant-loop-i
invariant-loop-i l = Read l.s l.at l.i l.x
