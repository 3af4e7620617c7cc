-- Numbers of refusals: each is from 1 to 16, and no two refusals have the same. So an answer told by number says as much as one by name.
use Rattle.suites.specs.Answer.{Answer}
use Rattle.std.specs.Prelude.{Ok, Err}
use mathlib.Core.Path.{◌≡◌, refl, sym, ap, ◌∙◌}
use mathlib.Core.List.{List, [], ◌∷◌}
use Prim.Native.Nat.{ℕ, ◌-◌, ◌≤◌}
use native.Mathlib.Omega.{arith}
use lib.ListN.{get_or}
use Rattle.suites.specs.declared.refusal.Refusal.{Refusal}
use Rattle.suites.specs.declared.refusal.Refusal.TheVariants.{
  SuiteNotListed,
  KeyLength,
  NonceLength,
  HeaderTooLong,
  SealedTooShort,
  TextTooLong,
  OutputTooShort,
  TagDiffers,
  WriterInvalid,
  WriterClosed,
  LanguagesNotAllowed,
  SegmentLength,
  TooManyUnits,
  FieldMalformed,
  NumberOutOfOrder,
  NoSuchUnit,
}
use Rattle.suites.specs.Refusal.{number}
use Rattle.suites.specs.Told.{Told, refuses, told}

-- the refusals in the table's order
abbrev refusals : List Refusal
refusals =
    SuiteNotListed
    ∷ KeyLength
    ∷ NonceLength
    ∷ HeaderTooLong
    ∷ SealedTooShort
    ∷ TextTooLong
    ∷ OutputTooShort
    ∷ TagDiffers
    ∷ WriterInvalid
    ∷ WriterClosed
    ∷ LanguagesNotAllowed
    ∷ SegmentLength
    ∷ TooManyUnits
    ∷ FieldMalformed
    ∷ NumberOutOfOrder
    ∷ NoSuchUnit
    ∷ []

-- the one with number n
abbrev refusal : ℕ → Refusal
refusal n = get_or refusals (n - 1) NoSuchUnit

numbered : (r : Refusal) → (refusal (number r) ≡ r) × (1 ≤ number r) × (number r ≤ 16)
numbered SuiteNotListed = (refl, omega arith, omega arith)
numbered KeyLength = (refl, omega arith, omega arith)
numbered NonceLength = (refl, omega arith, omega arith)
numbered HeaderTooLong = (refl, omega arith, omega arith)
numbered SealedTooShort = (refl, omega arith, omega arith)
numbered TextTooLong = (refl, omega arith, omega arith)
numbered OutputTooShort = (refl, omega arith, omega arith)
numbered TagDiffers = (refl, omega arith, omega arith)
numbered WriterInvalid = (refl, omega arith, omega arith)
numbered WriterClosed = (refl, omega arith, omega arith)
numbered LanguagesNotAllowed = (refl, omega arith, omega arith)
numbered SegmentLength = (refl, omega arith, omega arith)
numbered TooManyUnits = (refl, omega arith, omega arith)
numbered FieldMalformed = (refl, omega arith, omega arith)
numbered NumberOutOfOrder = (refl, omega arith, omega arith)
numbered NoSuchUnit = (refl, omega arith, omega arith)

pub number_within : (r : Refusal) → (1 ≤ number r) × (number r ≤ 16)
number_within r = ((numbered r).1, (numbered r).2)

pub number_one_to_one : (a b : Refusal) → number a ≡ number b → a ≡ b
number_one_to_one a b e = sym (numbered a).0 ∙ ap refusal e ∙ (numbered b).0

-- an answer without values, by what is told of it
pub told_done : (a : Answer) → (told a).number ≡ 0 → a ≡ Ok tt
told_done (Ok tt) e = refl
told_done (Err why) e = absurd (omega (arith, (number_within why).0))

pub told_refused : (a : Answer) (why : Refusal) → told a ≡ refuses (number why) → a ≡ Err why
told_refused (Ok tt) why e = absurd (omega (arith, ap (λ (t : Told). t.number) e, (number_within why).0))
told_refused (Err other) why e = ap Err (number_one_to_one other why (ap (λ (t : Told). t.number) e))
