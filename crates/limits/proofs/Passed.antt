-- The lengths of a call that passes its tests, and the bounds of the limits.
use Rattle.suites.specs.Answer.{Answer}
use Rattle.std.specs.Prelude.{Ok}
use mathlib.Core.Path.{◌≡◌, refl, ap, ◌∙◌}
use mathlib.Core.Bool.{Bool, true, false, ◌&&◌, and-eq-true_iff}
use Prim.Native.Nat.{ℕ, ◌+◌, ◌-◌, ◌*◌, ◌^◌, ◌≤◌}
use native.Mathlib.Nat.{min-le_right}
use native.Mathlib.Omega.{arith}
use borrow.Author.Tests.{leb-true, eqb-true, le-leb, eq-eqb}
use lib.Dec.{eqb, leb}
use Rattle.suites.specs.declared.refusal.Refusal.{Refusal}
use Rattle.suites.specs.declared.refusal.Refusal.TheVariants.{
  SuiteNotListed,
  KeyLength,
  NonceLength,
  HeaderTooLong,
  SealedTooShort,
  TextTooLong,
  OutputTooShort,
}
use Rattle.suites.specs.Suite.{listed}
use Rattle.limits.specs.Limits.{header_limit, text_limit}
use Rattle.limits.specs.Tests.{unless, input_tests, seal_tests, sealed_tests, open_tests, verify_tests}

pub header_limit_most : (n : ℕ) → header_limit n ≤ 2 ^ 24
unfolding header_limit
header_limit_most n = min-le_right (2 ^ (130 - 8 * n)) (2 ^ 24)

pub text_limit_most : (n : ℕ) → text_limit n ≤ 2 ^ 24
unfolding text_limit
text_limit_most n = min-le_right (2 ^ (131 - 8 * n)) (2 ^ 24)

-- a test and those after it are done where the test is true and those are done
pub unless_passed : (ok : Bool) (why : Refusal) (rest : Answer) → unless ok why rest ≡ Ok tt → (ok ≡ true) × (rest ≡ Ok tt)
unless_passed true why rest e = (refl, e)
unless_passed false why rest e = let z : ◌≡◌ {A = ℕ} 0 1 = cc in absurd (omega arith)

pub unless_passes : (ok : Bool) (why : Refusal) (rest : Answer) → ok ≡ true → rest ≡ Ok tt → unless ok why rest ≡ Ok tt
unless_passes ok why rest e d = ap (λ b. unless b why rest) e ∙ d

-- the tests that all calls have
pub record Inputs (cipher steps k n a : ℕ) : Type 0 where
  pub suite : listed cipher steps ≡ true
  pub key : k ≡ 16
  pub nonce : 1 ≤ n
  pub short : n ≤ 15
  pub header : a ≤ header_limit n

module _ (cipher steps k n a : ℕ) (rest : Answer) where
  inputs-passed : input_tests cipher steps k n a rest ≡ Ok tt → Inputs cipher steps k n a × (rest ≡ Ok tt)
  unfolding input_tests
  inputs-passed e =
      let suite = unless_passed (listed cipher steps) SuiteNotListed _ e in
      let key = unless_passed (eqb k 16) KeyLength _ suite.1 in
      let nonce = unless_passed (leb 1 n && leb n 15) NonceLength _ key.1 in
      let header = unless_passed (leb a (header_limit n)) HeaderTooLong rest nonce.1 in
      let both = (and-eq-true_iff (leb 1 n) (leb n 15)).0 nonce.0 in (
        record {
          suite = suite.0;
          key = eqb-true k 16 key.0;
          nonce = leb-true 1 n both.0;
          short = leb-true n 15 both.1;
          header = leb-true a (header_limit n) header.0;
        },
        header.1,
      )

  inputs-passes : Inputs cipher steps k n a → rest ≡ Ok tt → input_tests cipher steps k n a rest ≡ Ok tt
  unfolding input_tests
  inputs-passes i d =
      unless_passes (listed cipher steps) SuiteNotListed _ i.suite
      (unless_passes (eqb k 16) KeyLength _ (eq-eqb k 16 i.key)
      (unless_passes (leb 1 n && leb n 15) NonceLength _ ((and-eq-true_iff (leb 1 n) (leb n 15)).1 (le-leb 1 n i.nonce, le-leb n 15 i.short))
      (unless_passes (leb a (header_limit n)) HeaderTooLong rest (le-leb a (header_limit n) i.header) d)))

pub record Sealable (cipher steps k n a m o : ℕ) : Type 0 where
  pub inputs : Inputs cipher steps k n a
  pub text : m ≤ text_limit n
  pub room : m + 16 ≤ o

module _ (cipher steps k n a m o : ℕ) where
  pub seal_passed : seal_tests cipher steps k n a m o ≡ Ok tt → Sealable cipher steps k n a m o
  unfolding seal_tests
  seal_passed e =
      let input = inputs-passed cipher steps k n a _ e in
      let text = unless_passed (leb m (text_limit n)) TextTooLong _ input.1 in
      let room = unless_passed (leb (m + 16) o) OutputTooShort (Ok tt) text.1 in
      record { inputs = input.0; text = leb-true m (text_limit n) text.0; room = leb-true (m + 16) o room.0 }

  pub seal_passes : Sealable cipher steps k n a m o → seal_tests cipher steps k n a m o ≡ Ok tt
  unfolding seal_tests
  seal_passes s =
      inputs-passes cipher steps k n a _ s.inputs
      (unless_passes (leb m (text_limit n)) TextTooLong _ (le-leb m (text_limit n) s.text)
      (unless_passes (leb (m + 16) o) OutputTooShort (Ok tt) (le-leb (m + 16) o s.room) refl))

pub record Verifiable (cipher steps k n a s : ℕ) : Type 0 where
  pub inputs : Inputs cipher steps k n a
  pub long : 16 ≤ s
  pub text : s - 16 ≤ text_limit n

module _ (cipher steps k n a s : ℕ) (rest : Answer) where
  sealed-passed : sealed_tests cipher steps k n a s rest ≡ Ok tt → Verifiable cipher steps k n a s × (rest ≡ Ok tt)
  unfolding sealed_tests
  sealed-passed e =
      let input = inputs-passed cipher steps k n a _ e in
      let long = unless_passed (leb 16 s) SealedTooShort _ input.1 in
      let text = unless_passed (leb (s - 16) (text_limit n)) TextTooLong rest long.1 in
      (record { inputs = input.0; long = leb-true 16 s long.0; text = leb-true (s - 16) (text_limit n) text.0 }, text.1)

  sealed-passes : Verifiable cipher steps k n a s → rest ≡ Ok tt → sealed_tests cipher steps k n a s rest ≡ Ok tt
  unfolding sealed_tests
  sealed-passes v d =
      inputs-passes cipher steps k n a _ v.inputs
      (unless_passes (leb 16 s) SealedTooShort _ (le-leb 16 s v.long)
      (unless_passes (leb (s - 16) (text_limit n)) TextTooLong rest (le-leb (s - 16) (text_limit n) v.text) d))

module _ (cipher steps k n a s : ℕ) where
  pub verify_passed : verify_tests cipher steps k n a s ≡ Ok tt → Verifiable cipher steps k n a s
  unfolding verify_tests
  verify_passed e = (sealed-passed cipher steps k n a s (Ok tt) e).0

  pub verify_passes : Verifiable cipher steps k n a s → verify_tests cipher steps k n a s ≡ Ok tt
  unfolding verify_tests
  verify_passes v = sealed-passes cipher steps k n a s (Ok tt) v refl

pub record Openable (cipher steps k n a s o : ℕ) : Type 0 where
  pub sealed : Verifiable cipher steps k n a s
  pub room : s - 16 ≤ o

module _ (cipher steps k n a s o : ℕ) where
  pub open_passed : open_tests cipher steps k n a s o ≡ Ok tt → Openable cipher steps k n a s o
  unfolding open_tests
  open_passed e =
      let sealed = sealed-passed cipher steps k n a s _ e in
      let room = unless_passed (leb (s - 16) o) OutputTooShort (Ok tt) sealed.1 in
      record { sealed = sealed.0; room = leb-true (s - 16) o room.0 }

  pub open_passes : Openable cipher steps k n a s o → open_tests cipher steps k n a s o ≡ Ok tt
  unfolding open_tests
  open_passes v =
      sealed-passes cipher steps k n a s _ v.sealed (unless_passes (leb (s - 16) o) OutputTooShort (Ok tt) (le-leb (s - 16) o v.room) refl)
