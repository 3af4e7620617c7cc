-- The loop has passed so many units, and the walk goes on from the place behind them.
use mathlib.Core.Path.{◌≡◌}
use Prim.Native.Nat.{◌-◌, ◌≤◌}
use lib.ListN.{length}
use Rattle.kinds.specs.Kind.{kind_of}
use Rattle.walk.specs.Walk.{walk_to}
use Rattle.walk.proofs.Places.{walk_from}
use Rattle.walk.proofs.to.Given as goal

abbrev pub invariant-loop-number : goal.invariant-loop-number
invariant-loop-number l = (l.number ≤ l.k) × (l.at ≤ length l.s) × (walk_from (kind_of l.kind) l.k l.number l.at l.s ≡ walk_to (kind_of l.kind) l.k l.s) × (l.ahead ≡ 0)

abbrev pub decreases-loop-number : goal.decreases-loop-number
decreases-loop-number l = l.k - l.number
