-- Planes in which every state is the same: the key's, and a round constant's.
use Rattle.std.specs.Prelude.{◌≡◌, List, ℕ, ◌*◌, ◌<◌}
use Rattle.bits.specs.Bit.{bit}
use Rattle.bits.specs.Table.{tab}
use Rattle.planes.specs.Planes.{Shaped, lane}

-- every one of the 64 states is w
pub record Shared (w : List ℕ) (x : List (List ℕ)) : Type 0 where
  pub shape : Shaped x
  pub lanes : (b : ℕ) → b < 64 → lane x b ≡ w

-- the planes of a row that is c in every state: plane j has bit j of c in all 64 places
unfoldable pub spread : ℕ → List ℕ
spread c = tab 16 (λ j. bit c j * 18446744073709551615)
