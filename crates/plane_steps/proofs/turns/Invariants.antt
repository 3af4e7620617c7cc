-- The loop has done i of the n turns: of any planes from which those before the loop came.
use mathlib.Core.List.{List}
use Prim.Native.Nat.{ℕ}
use Rattle.rounds.specs.Cipher.{parts}
use Rattle.planes.specs.Planes.{Shaped, Goes}
use Rattle.turns.specs.Turns.{turns}
use Rattle.plane_steps.specs.Picked.{tweakeys_of}
use Rattle.plane_steps.proofs.turns.Given as goal

abbrev pub invariant-loop-i : goal.invariant-loop-i
invariant-loop-i l =
    Shaped l.x
    × ((z : List (List ℕ)) → Goes (λ b. turns l.ahead (parts l.k) (tweakeys_of l.k l.tweakeys b) l.n 0) z l.initial.x
    → Goes (λ b. turns l.ahead (parts l.k) (tweakeys_of l.k l.tweakeys b) l.n l.i) z l.x)
