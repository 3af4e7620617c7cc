-- Suites.
use Rattle.std.specs.Prelude.{Bool, ◌&&◌, ◌||◌, cond, ℕ, eqb, Result, Ok, Err}
use Rattle.suites.specs.Answer.{Answer}
use Rattle.suites.specs.declared.refusal.Refusal.{Refusal}
use Rattle.suites.specs.declared.refusal.Refusal.TheVariants.{SuiteNotListed}
use Rattle.rounds.specs.declared.Cipher.{Cipher}
use Rattle.rounds.specs.declared.Cipher.TheVariants.{Scream, IScream}
use Rattle.suites.specs.declared.suite.Suite.{Suite}

-- "A suite is two bytes: cipher (1 Scream, 2 iScream) and steps. Each cipher has exactly four step counts:
-- 6, 8, 10, 12 for Scream, 8, 10, 12, 14 for iScream."
abbrev pub listed : ℕ → ℕ → Bool
listed cipher steps =
    (eqb cipher 1 && (eqb steps 6 || eqb steps 8 || eqb steps 10 || eqb steps 12))
    || (eqb cipher 2 && (eqb steps 8 || eqb steps 10 || eqb steps 12 || eqb steps 14))

-- the cipher of a listed suite
abbrev pub cipher_of : ℕ → Cipher
cipher_of cipher = cond (eqb cipher 1) Scream IScream

-- what a checked maker makes
abbrev pub made : ℕ → ℕ → Result Suite Refusal
made cipher steps = cond (listed cipher steps) (Ok (record { cipher = cipher; steps = steps })) (Err SuiteNotListed)

-- "suite not listed: 1"
abbrev pub suite_answer : ℕ → ℕ → Answer
suite_answer cipher steps = cond (listed cipher steps) (Ok tt) (Err SuiteNotListed)
