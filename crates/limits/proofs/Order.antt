-- How tests answer, one after the other.
use mathlib.Core.Path.{◌≡◌, refl}
use mathlib.Core.Bool.{Bool, true, false, ◌&&◌}
use Prim.Native.Nat.{ℕ}
use lib.Dec.{eqb, leb}
use Rattle.std.specs.Prelude.{Ok}
use Rattle.suites.specs.Answer.{Answer}
use Rattle.suites.specs.declared.refusal.Refusal.TheVariants.{SuiteNotListed, KeyLength, NonceLength, HeaderTooLong}
use Rattle.suites.specs.Suite.{listed}
use Rattle.suites.specs.Told.{by_answer}
use Rattle.limits.specs.Limits.{header_limit}
use Rattle.limits.specs.Tests.{unless, input_tests}

module _ (cipher steps k n a : ℕ) where
  -- 1 to 4 come before the rest
  pub inputs_first : (rest : Answer)
      → input_tests cipher steps k n a rest ≡ by_answer (input_tests cipher steps k n a (Ok tt)) rest (input_tests cipher steps k n a (Ok tt))
  unfolding input_tests
  inputs_first rest = by (listed cipher steps) (eqb k 16) (leb 1 n && leb n 15) (leb a (header_limit n))
    where
      tests : Bool → Bool → Bool → Bool → Answer → Answer
      tests s l m h r = unless s SuiteNotListed (unless l KeyLength (unless m NonceLength (unless h HeaderTooLong r)))

      by : (s l m h : Bool) → tests s l m h rest ≡ by_answer (tests s l m h (Ok tt)) rest (tests s l m h (Ok tt))
      by false l m h = refl
      by true false m h = refl
      by true true false h = refl
      by true true true false = refl
      by true true true true = refl
