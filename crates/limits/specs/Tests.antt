-- The refusals that need only lengths, in the order of "When a call is turned down".
use Rattle.suites.specs.Answer.{Answer}
use Rattle.std.specs.Prelude.{Bool, cond, ◌&&◌, ℕ, ◌+◌, ◌-◌, eqb, leb, Ok, Err}
use Rattle.suites.specs.declared.refusal.Refusal.{Refusal}
use Rattle.suites.specs.declared.refusal.Refusal.TheVariants.{
  SuiteNotListed,
  KeyLength,
  NonceLength,
  HeaderTooLong,
  SealedTooShort,
  TextTooLong,
  OutputTooShort,
}
use Rattle.suites.specs.Suite.{listed}
use Rattle.limits.specs.Limits.{header_limit, text_limit}

-- one test, and those after it
abbrev pub unless : Bool → Refusal → Answer → Answer
unless ok why rest = cond ok rest (Err why)

-- "suite not listed: 1; key not 16 bytes: 2; nonce not 1 to 15 bytes: 3; header over its limit: 4", of a key of k bytes, a nonce of
-- n and a header of a
unfoldable pub input_tests : ℕ → ℕ → ℕ → ℕ → ℕ → Answer → Answer
input_tests cipher steps k n a rest =
    unless (listed cipher steps) SuiteNotListed
    (unless (eqb k 16) KeyLength
    (unless (leb 1 n && leb n 15) NonceLength
    (unless (leb a (header_limit n)) HeaderTooLong
    rest)))

-- "Seal: 1, 2, 3, 4, 6, 7", of a text of m bytes and an output of o
unfoldable pub seal_tests : ℕ → ℕ → ℕ → ℕ → ℕ → ℕ → ℕ → Answer
seal_tests cipher steps k n a m o =
    input_tests cipher steps k n a
    (unless (leb m (text_limit n)) TextTooLong
    (unless (leb (m + 16) o) OutputTooShort
    (Ok tt)))

-- of sealed bytes, s in all: "sealed bytes under 16: 5; text over its limit: 6"
unfoldable pub sealed_tests : ℕ → ℕ → ℕ → ℕ → ℕ → ℕ → Answer → Answer
sealed_tests cipher steps k n a s rest =
    input_tests cipher steps k n a
    (unless (leb 16 s) SealedTooShort
    (unless (leb (s - 16) (text_limit n)) TextTooLong
    rest))

-- "Open: 1 to 8", of which 1 to 7 need only lengths
unfoldable pub open_tests : ℕ → ℕ → ℕ → ℕ → ℕ → ℕ → ℕ → Answer
open_tests cipher steps k n a s o = sealed_tests cipher steps k n a s (unless (leb (s - 16) o) OutputTooShort (Ok tt))

-- opening without an output: 1 to 6
unfoldable pub verify_tests : ℕ → ℕ → ℕ → ℕ → ℕ → ℕ → Answer
verify_tests cipher steps k n a s = sealed_tests cipher steps k n a s (Ok tt)
