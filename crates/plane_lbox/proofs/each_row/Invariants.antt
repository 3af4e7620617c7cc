-- A turn of the loop multiplies one row of planes.
use mathlib.Core.Path.{◌≡◌}
use mathlib.Core.List.{List}
use Prim.Native.Nat.{ℕ}
use Rattle.plane_lbox.specs.Network.{times_at}
use Rattle.plane_lbox.proofs.Layer.{Multiplied}
use Rattle.plane_lbox.proofs.each_row.Given as goal

abbrev pub invariant-loop-row : goal.invariant-loop-row
invariant-loop-row g l =
    (m : List (List ℕ)) → ((r y : List ℕ) → goal.F-post g l.network r y → y ≡ times_at 64 m r) → Multiplied m l.initial.x l.row-index l.x
