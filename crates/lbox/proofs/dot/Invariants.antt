-- The loop adds the entries from the last to the first: what it has is the product of the row's rest with the bits from j on.
use mathlib.Core.Path.{◌≡◌}
use Prim.Native.Nat.{◌/◌, ◌^◌}
use lib.ListN.{drop}
use Rattle.lbox.specs.Lbox
use Rattle.lbox.proofs.dot.Given as goal

abbrev pub invariant-loop-j : goal.invariant-loop-j
invariant-loop-j l = l.sum ≡ Lbox.dot (drop l.j l.row) (l.x / 2 ^ l.j)
