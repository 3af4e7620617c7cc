-- How alike two segments are: 0 to 1,000.
use Rattle.std.specs.Prelude.{Bool, ◌&&◌, cond, List, ℕ, ◌+◌, ◌*◌, ◌/◌, eqb, length}
use Rattle.bits.specs.Bytes.{same_bytes}
use Rattle.trigrams.specs.Trigrams.{trigrams, shared}

-- "equal segments"
unfoldable pub equal_segments : List ℕ → List ℕ → Bool
equal_segments x y = eqb (length x) (length y) && same_bytes (length x) x y

-- "With p and q runs and c shared [..], the score is 2,000 × c divided by p + q, rounded down; if p + q is 0 it is 1,000 for equal segments
-- and 0 otherwise": by c, p + q, and whether the segments are equal
unfoldable pub score_by : ℕ → ℕ → Bool → ℕ
score_by c n equal = cond (eqb n 0) (cond equal 1000 0) (2000 * c / n)

-- the score of two segments
unfoldable pub score : List ℕ → List ℕ → ℕ
score x y = score_by (shared (trigrams x) (trigrams y)) (length (trigrams x) + length (trigrams y)) (equal_segments x y)
