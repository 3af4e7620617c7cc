-- The first j planes are added.
use lib.Bits.{bit_xor}
use lib.ListN.{get_or}
use Rattle.bits.proofs.Elements.{Replaced}
use Rattle.plane_tweakeys.proofs.sums.add_row.Given as goal

abbrev pub invariant-loop-j : goal.invariant-loop-j
invariant-loop-j l = Replaced 0 16 (λ j. bit_xor (get_or l.initial.p-items j 0) (get_or l.s j 0)) l.initial.p-items l.j l.p-items
