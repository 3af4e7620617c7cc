-- The loop has read n units, and goes on from the place behind them.
use mathlib.Core.Path.{◌≡◌}
use Prim.Native.Nat.{suc, ◌-◌, ◌*◌, ◌≤◌}
use lib.ListN.{length}
use Rattle.kinds.specs.Kind.{kind_of}
use Rattle.parser.specs.Frame.{most_units}
use Rattle.checker.specs.Check.{check_from}
use Rattle.checker.proofs.Turns.{check_at_place}
use Rattle.checker.proofs.check.check_from.Given as goal

abbrev pub invariant-loop-m : goal.invariant-loop-m
invariant-loop-m l =
    (l.place ≤ length l.s) × (l.n ≤ most_units)
    × (check_at_place (kind_of l.r.kind) l.r.key.now l.r.front.now l.place l.n l.total l.s ≡ check_from (kind_of l.r.kind) l.r.key.now l.r.front.now (suc most_units) 0 0 l.s)
    × (l.total ≤ 517 * l.n)

abbrev pub decreases-loop-m : goal.decreases-loop-m
decreases-loop-m l = length l.s - l.place
