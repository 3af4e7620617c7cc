-- The first c words are read.
use Rattle.planes.specs.Loaded.{Fours}
use Rattle.planes.proofs.loading.words.Given as goal

abbrev pub invariant-loop-c : goal.invariant-loop-c
invariant-loop-c l = Fours l.s l.at l.c l.r
