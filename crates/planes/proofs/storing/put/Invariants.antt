-- The loop has put the first b blocks.
use mathlib.Core.List.{List}
use mathlib.Core.Path.{◌≡◌}
use Prim.Native.Nat.{ℕ, ◌*◌}
use lib.Seq.{paste}
use Rattle.blockwise.specs.Blocks.{strung}
use Rattle.planes.specs.Loaded.{rows_in}
use Rattle.state.specs.Block.{bytes}
use Rattle.planes.proofs.storing.put.Given as goal

abbrev blocks : List (List ℕ) → ℕ → List ℕ
blocks y b = bytes (rows_in y b)

abbrev pub invariant-loop-b : goal.invariant-loop-b
invariant-loop-b l = l.d ≡ paste l.initial.d l.at (strung l.b (blocks l.y)) (16 * l.b)
