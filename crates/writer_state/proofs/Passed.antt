-- What is true of a call that passes its tests, and that a call passes where this is true.
use Rattle.suites.specs.Answer.{Answer}
use Rattle.std.specs.Prelude.{Ok}
use mathlib.Core.Path.{◌≡◌, refl, ap}
use mathlib.Core.Bool.{true, false, not, and-eq-true_iff}
use mathlib.Core.List.{List}
use Prim.Native.Nat.{ℕ, ◌+◌, ◌*◌, ◌≤◌, ◌<◌}
use borrow.Author.Tests.{ltb-true, leb-true, eqb-true, not-true, lt-ltb, le-leb, eq-eqb}
use lib.Dec.{eqb, leb, ltb}
use Rattle.suites.specs.declared.refusal.Refusal.TheVariants.{
  SuiteNotListed,
  KeyLength,
  OutputTooShort,
  WriterInvalid,
  WriterClosed,
  LanguagesNotAllowed,
  SegmentLength,
  TooManyUnits,
}
use Rattle.suites.specs.declared.suite.Suite.{Suite}
use Rattle.suites.specs.Suite.{listed}
use Rattle.limits.proofs.Passed.{unless_passed, unless_passes}
use Rattle.fields.specs.Kind.{Kind}
use Rattle.fields.specs.Languages.{pair_allowed}
use Rattle.kinds.specs.Lengths.{unit_length, close_length}
use Rattle.fields.specs.Unit.{in_range}
use Rattle.fields.proofs.Texts.{range_told}
use Rattle.writer_state.specs.declared.Writer.{Writer}
use Rattle.writer_state.specs.Tests.{start_outcome, valid, writer_tests, add_tests, close_outcome}

-- a start under a key of k bytes, with a buffer of room bytes
pub record Startable (suite : Suite) (k room : ℕ) : Type 0 where
  pub listed_suite : listed suite.cipher suite.steps ≡ true
  pub key : k ≡ 16
  pub enough : 16 ≤ room

pub start_passed : (suite : Suite) (k room : ℕ) → start_outcome suite k room ≡ Ok tt → Startable suite k room
unfolding start_outcome
start_passed suite k room e =
    let listed = unless_passed (listed suite.cipher suite.steps) SuiteNotListed _ e in
    let key = unless_passed (eqb k 16) KeyLength _ listed.1 in
    let enough = unless_passed (leb 16 room) OutputTooShort (Ok tt) key.1 in
    record { listed_suite = listed.0; key = eqb-true k 16 key.0; enough = leb-true 16 room enough.0 }

pub start_passes : (suite : Suite) (k room : ℕ) → Startable suite k room → start_outcome suite k room ≡ Ok tt
unfolding start_outcome
start_passes suite k room s = simp (s.listed_suite, eq-eqb k 16 s.key, le-leb 16 room s.enough)

-- a writer that is valid over a buffer of room bytes
pub record Valid (kind : Kind) (w : Writer) (room : ℕ) : Type 0 where
  pub listed_suite : listed w.suite.cipher w.suite.steps ≡ true
  pub begun : 16 ≤ w.place
  pub within : w.place ≤ room
  pub count : w.count ≤ kind.unit_limit
  pub total : w.total ≤ 1024 * (w.count + 1)

module _ (kind : Kind) (w : Writer) where
  pub valid_told : (room : ℕ) → valid kind w room ≡ true → Valid kind w room
  valid_told room e =
      let suite = (and-eq-true_iff (listed w.suite.cipher w.suite.steps) _).0 e in
      let begun = (and-eq-true_iff (leb 16 w.place) _).0 suite.1 in
      let within = (and-eq-true_iff (leb w.place room) _).0 begun.1 in
      let count = (and-eq-true_iff (leb w.count kind.unit_limit) (leb w.total (1024 * (w.count + 1)))).0 within.1 in
      record {
        listed_suite = suite.0;
        begun = leb-true 16 w.place begun.0;
        within = leb-true w.place room within.0;
        count = leb-true w.count kind.unit_limit count.0;
        total = leb-true w.total (1024 * (w.count + 1)) count.1;
      }

  pub valid_is : (room : ℕ) → Valid kind w room → valid kind w room ≡ true
  valid_is room v =
      (and-eq-true_iff (listed w.suite.cipher w.suite.steps) _).1 (
        v.listed_suite,
        (and-eq-true_iff (leb 16 w.place) _).1 (
          le-leb 16 w.place v.begun,
          (and-eq-true_iff (leb w.place room) _).1 (
            le-leb w.place room v.within,
            (and-eq-true_iff (leb w.count kind.unit_limit) (leb w.total (1024 * (w.count + 1)))).1
                (le-leb w.count kind.unit_limit v.count, le-leb w.total (1024 * (w.count + 1)) v.total),
          ),
        ),
      )

  -- the tests that add and close have
  pub writer_passed : (room : ℕ) (rest : Answer) → writer_tests kind w room rest ≡ Ok tt → Valid kind w room × (w.closed ≡ false) × (rest ≡ Ok tt)
  unfolding writer_tests
  writer_passed room rest e =
      let right = unless_passed (valid kind w room) WriterInvalid _ e in
      let unclosed = unless_passed (not w.closed) WriterClosed rest right.1 in
      (valid_told room right.0, not-true w.closed unclosed.0, unclosed.1)

  pub writer_passes : (room : ℕ) (rest : Answer) → Valid kind w room → w.closed ≡ false → rest ≡ Ok tt → writer_tests kind w room rest ≡ Ok tt
  unfolding writer_tests
  writer_passes room rest v unclosed d =
      unless_passes (valid kind w room) WriterInvalid _ (valid_is room v)
      (unless_passes (not w.closed) WriterClosed rest (ap not unclosed) d)

-- an add of a unit with a source of s bytes and a target of t
pub record Addable (kind : Kind) (w : Writer) (from to : List ℕ) (s t room : ℕ) : Type 0 where
  pub valid : Valid kind w room
  pub unclosed : w.closed ≡ false
  pub languages : pair_allowed from to ≡ true
  pub range : in_range s t ≡ true
  pub some : 1 ≤ s
  pub source : s ≤ 4096
  pub target : t ≤ 4096
  pub few : w.count < kind.unit_limit
  pub enough : w.place + unit_length kind s t ≤ room

pub add_passed : (kind : Kind) (w : Writer) (from to : List ℕ) (s t room : ℕ) → add_tests kind w from to s t room ≡ Ok tt
    → Addable kind w from to s t room
unfolding add_tests
add_passed kind w from to s t room e =
    let writer = writer_passed kind w room _ e in
    let languages = unless_passed (pair_allowed from to) LanguagesNotAllowed _ writer.2 in
    let range = unless_passed (in_range s t) SegmentLength _ languages.1 in
    let few = unless_passed (ltb w.count kind.unit_limit) TooManyUnits _ range.1 in
    let enough = unless_passed (leb (w.place + unit_length kind s t) room) OutputTooShort (Ok tt) few.1 in
    let told = range_told s t range.0 in
    record {
      valid = writer.0;
      unclosed = writer.1;
      languages = languages.0;
      range = range.0;
      some = told.0;
      source = told.1;
      target = told.2;
      few = ltb-true w.count kind.unit_limit few.0;
      enough = leb-true (w.place + unit_length kind s t) room enough.0;
    }

pub add_passes : (kind : Kind) (w : Writer) (from to : List ℕ) (s t room : ℕ) → Addable kind w from to s t room
    → add_tests kind w from to s t room ≡ Ok tt
unfolding add_tests
add_passes kind w from to s t room a =
    writer_passes kind w room _ a.valid a.unclosed
    (unless_passes (pair_allowed from to) LanguagesNotAllowed _ a.languages
    (unless_passes (in_range s t) SegmentLength _ a.range
    (unless_passes (ltb w.count kind.unit_limit) TooManyUnits _ (lt-ltb w.count kind.unit_limit a.few)
    (unless_passes (leb (w.place + unit_length kind s t) room) OutputTooShort (Ok tt) (le-leb (w.place + unit_length kind s t) room a.enough) refl))))

pub record Closable (kind : Kind) (w : Writer) (room : ℕ) : Type 0 where
  pub valid : Valid kind w room
  pub unclosed : w.closed ≡ false
  pub enough : w.place + close_length kind ≤ room

pub close_passed : (kind : Kind) (w : Writer) (room : ℕ) → close_outcome kind w room ≡ Ok tt → Closable kind w room
unfolding close_outcome
close_passed kind w room e =
    let writer = writer_passed kind w room _ e in
    let enough = unless_passed (leb (w.place + close_length kind) room) OutputTooShort (Ok tt) writer.2 in
    record { valid = writer.0; unclosed = writer.1; enough = leb-true (w.place + close_length kind) room enough.0 }

pub close_passes : (kind : Kind) (w : Writer) (room : ℕ) → Closable kind w room → close_outcome kind w room ≡ Ok tt
unfolding close_outcome
close_passes kind w room c =
    writer_passes kind w room _ c.valid c.unclosed
    (unless_passes (leb (w.place + close_length kind) room) OutputTooShort (Ok tt) (le-leb (w.place + close_length kind) room c.enough) refl)
