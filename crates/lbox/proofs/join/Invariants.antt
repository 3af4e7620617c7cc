-- The first i words are joined.
use Prim.Native.Nat.{◌+◌, ◌*◌}
use lib.ListN.{get_or}
use Rattle.bits.proofs.Elements.{Replaced}
use Rattle.lbox.proofs.join.Given as goal

abbrev pub invariant-loop-i : goal.invariant-loop-i
invariant-loop-i l = Replaced 0 256 (λ b. get_or l.high b 0 * 256 + get_or l.low b 0) l.initial.w-items l.i l.w-items
