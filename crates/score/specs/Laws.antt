-- Laws of the score that others cite, as statements; proofs/Laws proves them.
use Rattle.std.specs.Prelude.{◌≡◌, true, ◌↔◌, List, ℕ, ◌≤◌, length}
use Rattle.trigrams.specs.Trigrams.{trigrams, shared}
use Rattle.score.specs.Score.{equal_segments, score}

pub record ScoreLaws : Type 0 where
  -- the score is at most 1,000
  pub most : (x y : List ℕ) → score x y ≤ 1000
  -- a segment scores 1,000 against itself
  pub self : (x : List ℕ) → score x x ≡ 1000
  -- it is the same both ways round
  pub both : (x y : List ℕ) → score x y ≡ score y x
  -- "equal segments" are the same bytes
  pub equal : (x y : List ℕ) → (equal_segments x y ≡ true) ↔ (x ≡ y)
  -- c is at most p, and at most q
  pub first : (x y : List ℕ) → shared (trigrams x) (trigrams y) ≤ length (trigrams x)
  pub second : (x y : List ℕ) → shared (trigrams x) (trigrams y) ≤ length (trigrams y)
