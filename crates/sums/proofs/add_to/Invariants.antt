-- The loop fills d from the front.
use mathlib.Core.Path.{◌≡◌}
use mathlib.Core.List.{◌++◌}
use lib.ListN.{take, drop}
use Rattle.bits.specs.Bytes.{added}
use Rattle.sums.proofs.add_to.Given as goal

abbrev pub invariant-loop-i : goal.invariant-loop-i
invariant-loop-i l = l.d ≡ take l.i (added l.initial.d l.b) ++ drop l.i l.initial.d
