-- What check tells by number and values says its answer.
use Rattle.std.specs.Prelude.{Ok, Err}
use mathlib.Core.Path.{◌≡◌, ap}
use mathlib.Core.List.{[], ◌∷◌}
use Prim.Native.Nat.{ℕ}
use native.Mathlib.Omega.{arith}
use lib.ListN.{length, get_or}
use Rattle.suites.specs.Told.{Told, gives}
use Rattle.checker.specs.Check.{check_told, CheckAnswer, accepted}

pub told_accepted : (a : CheckAnswer) (n t : ℕ) → check_told a ≡ gives (n ∷ t ∷ []) → a ≡ accepted n t
told_accepted (Ok totals) n t e = λ i. accepted (get_or (e i).values 0 0) (get_or (e i).values 1 0)
told_accepted (Err why) n t e = let none : ◌≡◌ {A = ℕ} 0 2 = ap (λ (r : Told). length r.values) e in absurd (omega arith)
