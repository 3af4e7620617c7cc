-- What the functions for C return, and what they leave in the numbers that they are lent.
use Rattle.suites.specs.Answer.{Answer}
use Rattle.std.specs.Prelude.{◌≡◌, List, [], ◌∷◌, ℕ}
use Rattle.suites.specs.declared.suite.Suite.{Suite}
use Rattle.suites.specs.Told.{Told, told}

-- a suite of two bytes
abbrev pub suite_of : ℕ → ℕ → Suite
suite_of cipher steps = record { cipher = cipher; steps = steps }

-- 0, or the refusal's number
abbrev pub returned : Answer → ℕ
returned answer = (told answer).number

-- values, or with a refusal, which has none, what was there
abbrev pub or_old : List ℕ → List ℕ → List ℕ
or_old [] old = old
or_old (v ∷ vs) old = v ∷ vs

-- a call that tells t returns r, and leaves `new` in the numbers that were `old`
pub record Returns (t : Told) (old : List ℕ) (r : ℕ) (new : List ℕ) : Type 0 where
  pub number : r ≡ t.number
  pub values : new ≡ or_old t.values old
