-- The tests by the scope's numbers.
use Rattle.suites.specs.Answer.{Answer}
use Rattle.std.specs.Prelude.{Ok}
use mathlib.Core.Path.{◌≡◌, refl}
use mathlib.Core.Bool.{Bool, true, false, not, ◌&&◌}
use mathlib.Core.List.{[]}
use Prim.Native.Nat.{ℕ, ◌+◌, ◌-◌}
use lib.Dec.{eqb, leb}
use Rattle.suites.specs.declared.refusal.Refusal.{Refusal}
use Rattle.suites.specs.declared.refusal.Refusal.TheVariants.{
  SuiteNotListed,
  KeyLength,
  NonceLength,
  HeaderTooLong,
  SealedTooShort,
  TextTooLong,
  OutputTooShort,
}
use Rattle.suites.specs.Refusal.{number}
use Rattle.suites.specs.Suite.{listed}
use Rattle.suites.specs.Told.{Told, gives, due, told}
use Rattle.limits.specs.Limits.{header_limit, text_limit}
use Rattle.limits.specs.Tests.{unless, input_tests, seal_tests, sealed_tests, open_tests}
use Rattle.limits.specs.Due.{input_due, seal_due, open_due}

-- a test and what follows it
pub told_unless : (ok : Bool) (why : Refusal) (rest : Answer) (r : Told) → told rest ≡ r → told (unless ok why rest) ≡ due (not ok) (number why) r
told_unless true why rest r e = e
told_unless false why rest r e = refl

module _ (cipher steps k n a : ℕ) where
  inputs-told : (rest : Answer) (r : Told) → told rest ≡ r → told (input_tests cipher steps k n a rest) ≡ input_due cipher steps k n a r
  unfolding input_tests
  inputs-told rest r e =
      let key = eqb k 16 in
      let nonce = leb 1 n && leb n 15 in
      let header = leb a (header_limit n) in
      let after-nonce = unless header HeaderTooLong rest in
      let after-key = unless nonce NonceLength after-nonce in
      let fourth = told_unless header HeaderTooLong rest r e in
      let third = told_unless nonce NonceLength after-nonce (due (not header) 4 r) fourth in
      let second = told_unless key KeyLength after-key (due (not nonce) 3 (due (not header) 4 r)) third in
      told_unless (listed cipher steps) SuiteNotListed (unless key KeyLength after-key)
      (due (not key) 2 (due (not nonce) 3 (due (not header) 4 r))) second

  pub seal_told_lem : (m o : ℕ) → told (seal_tests cipher steps k n a m o) ≡ seal_due cipher steps k n a m o
  unfolding seal_tests seal_due
  seal_told_lem m o =
      let text = leb m (text_limit n) in
      let room = leb (m + 16) o in
      inputs-told (unless text TextTooLong (unless room OutputTooShort (Ok tt))) (due (not text) 6 (due (not room) 7 (gives [])))
      (told_unless text TextTooLong (unless room OutputTooShort (Ok tt)) (due (not room) 7 (gives []))
      (told_unless room OutputTooShort (Ok tt) (gives []) refl))

  pub open_told : (s o : ℕ) → told (open_tests cipher steps k n a s o) ≡ open_due cipher steps k n a s o
  unfolding open_tests sealed_tests open_due
  open_told s o =
      let long = leb 16 s in
      let text = leb (s - 16) (text_limit n) in
      let room = leb (s - 16) o in
      let last = unless room OutputTooShort (Ok tt) in
      let after-long = unless text TextTooLong last in
      inputs-told (unless long SealedTooShort after-long) (due (not long) 5 (due (not text) 6 (due (not room) 7 (gives []))))
      (told_unless long SealedTooShort after-long (due (not text) 6 (due (not room) 7 (gives [])))
      (told_unless text TextTooLong last (due (not room) 7 (gives []))
      (told_unless room OutputTooShort (Ok tt) (gives []) refl)))
