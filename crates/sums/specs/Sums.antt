-- Sums of blocks as the code's loops make them.
use Rattle.std.specs.Prelude.{List, ℕ, zero, suc}
use Rattle.bits.specs.Bytes.{added}

-- g 0, g 1, up to g (n - 1), added to a sum
unfoldable pub sum_from : List ℕ → ℕ → (ℕ → List ℕ) → List ℕ
sum_from s zero g = s
sum_from s (suc n) g = added (sum_from s n g) (g n)
