-- What an L-box's network gives on sixteen planes: the product of every row that they hold.
use Rattle.std.specs.Prelude.{List, ℕ}
use Rattle.bits.specs.Bit.{bit, gather}
use Rattle.bits.specs.Table.{tab}
use Rattle.lbox.specs.Lbox.{times}
use Rattle.planes.specs.Planes.{row_at}

-- the planes, of k bits, with the matrix times each of their rows
unfoldable pub times_at : ℕ → List (List ℕ) → List ℕ → List ℕ
times_at k m r = tab 16 (λ i. gather k (λ b. bit (times m (row_at r b)) i))
