-- A turn of the loop sends one column through the circuit.
use mathlib.Core.Path.{◌≡◌}
use mathlib.Core.List.{List}
use Prim.Native.Nat.{ℕ}
use Rattle.sbox.specs.Sbox.{layer_at}
use Rattle.planes.specs.Planes.{Shaped}
use Rattle.plane_sbox.proofs.Substituted.{Substituted}
use Rattle.plane_sbox.proofs.each_column.Given as goal

abbrev pub invariant-loop-j : goal.invariant-loop-j
invariant-loop-j g l =
    Shaped l.x
    × ((t : List ℕ) → ((w r : List ℕ) → goal.F-post g l.circuit w r → r ≡ layer_at 64 t w) → Substituted t l.initial.x l.j l.x)
