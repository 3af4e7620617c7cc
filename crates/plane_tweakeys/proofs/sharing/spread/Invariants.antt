-- The first j planes are there.
use Prim.Native.Nat.{◌*◌}
use Rattle.bits.specs.Bit.{bit}
use Rattle.bits.proofs.Elements.{Replaced}
use Rattle.plane_tweakeys.proofs.sharing.spread.Given as goal

abbrev pub invariant-loop-j : goal.invariant-loop-j
invariant-loop-j l = Replaced 0 16 (λ j. bit l.c j * 18446744073709551615) l.initial.p-items l.j l.p-items
