-- The causes for which a call is turned down, and their numbers.
use Rattle.std.specs.Prelude.{ℕ}
use Rattle.suites.specs.declared.refusal.Refusal.{Refusal}
use Rattle.suites.specs.declared.refusal.Refusal.TheVariants.{
  SuiteNotListed,
  KeyLength,
  NonceLength,
  HeaderTooLong,
  SealedTooShort,
  TextTooLong,
  OutputTooShort,
  TagDiffers,
  WriterInvalid,
  WriterClosed,
  LanguagesNotAllowed,
  SegmentLength,
  TooManyUnits,
  FieldMalformed,
  NumberOutOfOrder,
  NoSuchUnit,
}

-- the number of each cause in the table "When a call is turned down"
abbrev pub number : Refusal → ℕ
number SuiteNotListed = 1
number KeyLength = 2
number NonceLength = 3
number HeaderTooLong = 4
number SealedTooShort = 5
number TextTooLong = 6
number OutputTooShort = 7
number TagDiffers = 8
number WriterInvalid = 9
number WriterClosed = 10
number LanguagesNotAllowed = 11
number SegmentLength = 12
number TooManyUnits = 13
number FieldMalformed = 14
number NumberOutOfOrder = 15
number NoSuchUnit = 16
