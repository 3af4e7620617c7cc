-- The trigrams that are shared, by a count of those of one segment: the form in which the code finds them, and in which no entry point's
-- contract speaks. The laws in proofs/ say that it is the definition of `shared`.
use Rattle.std.specs.Prelude.{cond, List, [], ◌∷◌, ℕ, suc, ◌-◌, eqb}

-- a count in which v is counted x times
abbrev pub put : (ℕ → ℕ) → ℕ → ℕ → ℕ → ℕ
put m v x w = cond (eqb w v) x (m w)

-- how many elements of a list can be taken from a count m, one after the other
unfoldable pub taken : (ℕ → ℕ) → List ℕ → ℕ
taken m [] = 0
taken m (v ∷ y) = cond (eqb (m v) 0) (taken m y) (suc (taken (put m v (m v - 1)) y))
