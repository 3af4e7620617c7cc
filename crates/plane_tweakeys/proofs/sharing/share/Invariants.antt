-- The first i rows are spread.
use mathlib.Core.List.{[]}
use lib.ListN.{get_or}
use Rattle.bits.proofs.Elements.{Replaced}
use Rattle.plane_tweakeys.specs.Shared
use Rattle.plane_tweakeys.proofs.sharing.share.Given as goal

abbrev pub invariant-loop-i : goal.invariant-loop-i
invariant-loop-i l = Replaced [] 8 (λ i. Shared.spread (get_or l.w i 0)) l.initial.x l.i l.x
