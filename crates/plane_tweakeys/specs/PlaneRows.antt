-- What the code does to the sixteen planes of one row.
use Rattle.std.specs.Prelude.{List, ◌∷◌, ℕ, get_or}
use Rattle.std.specs.Int.Bits.{bit_xor}
use Rattle.bits.specs.Table.{tab}

-- two rows of planes added by xor
unfoldable pub add_planes : List ℕ → List ℕ → List ℕ
add_planes r s = tab 16 (λ j. bit_xor (get_or r j 0) (get_or s j 0))

-- every row that the planes hold rotated left by 1: the planes go one place up, and the last comes first
unfoldable pub rotated_planes : List ℕ → List ℕ
rotated_planes r = get_or r 15 0 ∷ tab 15 (λ j. get_or r j 0)
