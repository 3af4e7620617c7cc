-- What fetch hands out of any string of bytes, checked or not, under any key: source and target of a unit that stands there sealed under that
-- key. Statements; proofs/Any proves them.
use Rattle.std.specs.Prelude.{◌≡◌, true, List, [], ◌∷◌, ◌++◌, ℕ, ◌+◌, ◌<◌, length, take, drop}
use Rattle.bits.specs.Bytes.{Bytes}
use Rattle.suites.specs.Suite.{listed}
use Rattle.suites.specs.Told.{gives}
use Rattle.fields.specs.Unit.{BookUnit, Allowed}
use Rattle.kinds.specs.Kind.{kind_of, book_kind}
use Rattle.format.specs.Layout.{unit_bytes}
use Rattle.format.specs.Sealings.{opening_fields}
use Rattle.parser.specs.Frame.{most_units}
use Rattle.opening_fields.specs.Opening.{opening_number, opening_suite, opening_bytes, after_opening}
use Rattle.walk.specs.declared.Place.{Place}
use Rattle.walk.specs.Walk.{walk_to}
use Rattle.fetch.specs.Fetch.{fetch_answer, fetch_told, fetch_buffer, placed_answer, placed_told, placed_buffer}

-- the bytes of the unit u at the number n, sealed under the key with the suite and the book number that the string x says
abbrev pub sealed_unit : List ℕ → List ℕ → ℕ → BookUnit → List ℕ
sealed_unit key x n u = unit_bytes (kind_of (book_kind x)) (opening_suite x) key (opening_number x) n u

-- they stand at byte `at` of x
pub record SealedAt (key x : List ℕ) (n at : ℕ) (u : BookUnit) : Type 0 where
  -- a key, a suite and opening fields that a book may have
  pub key_long : length key ≡ 16
  pub listed_suite : listed (opening_suite x).cipher (opening_suite x).steps ≡ true
  pub opening : opening_bytes x ≡ opening_fields (opening_suite x) (opening_number x)
  -- a number that is read, and a unit that a book of this kind may have
  pub few : n < most_units
  pub allowed : Allowed (kind_of (book_kind x)) n u
  pub stands : take (length (sealed_unit key x n u)) (drop at x) ≡ sealed_unit key x n u

-- the output begins with such a unit's source and target, which have s and t bytes, and goes on as it was
pub record HandsSealed (key x : List ℕ) (n at s t : ℕ) (out left : List ℕ) : Type 0 where
  pub unit : BookUnit
  pub sealed : SealedAt key x n at unit
  pub source : length unit.source ≡ s
  pub target : length unit.target ≡ t
  pub output : left ≡ unit.source ++ (unit.target ++ drop (s + t) out)

-- where the walk to unit k ends
abbrev pub walk_end : List ℕ → ℕ → Place
walk_end x k = walk_to (kind_of (book_kind x)) k (after_opening x)

pub record FetchesSealed : Type 0 where
  -- fetch of k: the walk has gone past k units, and unit k stands where it ends
  pub walked : (key x out : List ℕ) (k s t : ℕ) → Bytes key → Bytes x → fetch_told (fetch_answer key x k out) ≡ gives (s ∷ t ∷ [])
      → ((walk_end x k).number ≡ k) × HandsSealed key x k (16 + (walk_end x k).at) s t out (fetch_buffer key x k out)
  -- the same at a place, and the next place is behind the unit
  pub placed : (key x out : List ℕ) (n at s t next : ℕ) → Bytes key → Bytes x → placed_told (placed_answer key x n at out) ≡ gives (s ∷ t ∷ next ∷ [])
      → (h : HandsSealed key x n at s t out (placed_buffer key x n at out)) × (next ≡ at + length (sealed_unit key x n h.unit))
