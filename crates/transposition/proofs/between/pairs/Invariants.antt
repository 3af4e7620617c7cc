-- The first c pairs are exchanged.
use lib.ListN.{get_or}
use Rattle.bits.proofs.Elements.{Replaced}
use Rattle.transposition.specs.Levels.{lower, upper}
use Rattle.transposition.proofs.between.pairs.Given as goal

abbrev pub invariant-loop-c : goal.invariant-loop-c
invariant-loop-c g l =
    Replaced 0 16 (λ c. lower g.row.D g.row.MASK (get_or l.initial.a c 0) (get_or l.initial.b c 0)) l.initial.a l.c l.a
    × Replaced 0 16 (λ c. upper g.row.D g.row.MASK (get_or l.initial.a c 0) (get_or l.initial.b c 0)) l.initial.b l.c l.b
