-- The score by the numbers of trigrams.
use mathlib.Core.Path.{◌≡◌}
use mathlib.Core.Bool.{Bool, cond}
use mathlib.Core.List.{List}
use Prim.Native.Nat.{ℕ, ◌+◌, ◌-◌, ◌*◌, ◌/◌, ◌≤◌}
use native.Mathlib.Omega.{arith}
use borrow.Author.Tests.{eq-eqb, ne_eqb}
use lib.ListN.{length}
use Rattle.trigrams.specs.Trigrams.{trigrams, shared}
use Rattle.trigrams.proofs.Common.{shared_le, shared_le_left}
use Rattle.trigrams.proofs.Trigrams.{length_trigrams}
use Rattle.score.specs.Score.{equal_segments, score_by, score}

module _ (x y : List ℕ) where
  both_is : length (trigrams x) + length (trigrams y) ≡ length x - 2 + (length y - 2)
  both_is = omega (arith, length_trigrams x, length_trigrams y)

  pub score_none : length x - 2 + (length y - 2) ≡ 0 → (b : Bool) → equal_segments x y ≡ b → score x y ≡ cond b 1000 0
  unfolding score score_by
  score_none z b e = rw (both_is, eq-eqb (length x - 2 + (length y - 2)) 0 z, e)

  pub score_some : (c : ℕ) → c ≡ shared (trigrams x) (trigrams y) → (length x - 2 + (length y - 2) ≡ 0 → ⊥)
      → score x y ≡ 2000 * c / (length x - 2 + (length y - 2))
  unfolding score score_by
  score_some c e d = rw (both_is, ne_eqb (length x - 2 + (length y - 2)) 0 d, e)

  -- twice what is shared is at most p + q
  pub shared_twice : (c : ℕ) → c ≡ shared (trigrams x) (trigrams y) → 2 * c ≤ length x - 2 + (length y - 2)
  shared_twice c e = omega (arith, shared_le (trigrams x) (trigrams y), shared_le_left (trigrams x) (trigrams y), both_is)
