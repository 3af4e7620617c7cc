-- The first j planes are there.
use Prim.Native.Nat.{◌+◌, ◌%◌}
use lib.ListN.{get_or}
use Rattle.bits.proofs.Elements.{Replaced}
use Rattle.plane_tweakeys.proofs.tweakeys.rotate_row.Given as goal

abbrev pub invariant-loop-j : goal.invariant-loop-j
invariant-loop-j l = Replaced 0 16 (λ j. get_or l.r ((j + 15) % 16) 0) l.initial.p-items l.j l.p-items
