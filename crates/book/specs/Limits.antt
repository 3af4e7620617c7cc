-- What check answers where units are many: "Refusals 9 and 13 move to the new limit, also for old books where it cannot occur"; and where kinds
-- are mixed: "one kind per book". proofs/Limits proves both.
use Rattle.std.specs.Prelude.{◌≡◌, Bool, true, false, ◌&&◌, cond, List, ◌++◌, ◌≢◌, ℕ, ◌^◌, ◌≤◌, ◌<◌, length}
use Rattle.bits.specs.Bytes.{Bytes}
use Rattle.suites.specs.declared.suite.Suite.{Suite}
use Rattle.suites.specs.Suite.{listed}
use Rattle.suites.specs.Told.{refuses}
use Rattle.fields.specs.Each.{EachFrom}
use Rattle.fields.specs.Field.{has_field, after_field}
use Rattle.fields.specs.Kind.{Kind, kind10, kind14}
use Rattle.fields.specs.Unit.{BookUnit, Allowed}
use Rattle.kinds.specs.declared.Kind.{Kind as BookKind}
use Rattle.kinds.specs.declared.Kind.TheVariants.{Tag10}
use Rattle.kinds.specs.Kind.{kind_of, book_kind}
use Rattle.kinds.specs.Lengths.{header_bytes}
use Rattle.format.specs.Layout.{units_bytes}
use Rattle.format.specs.Sealings.{opening_fields}
use Rattle.parser.specs.Frame.{most_units, begins_close}
use Rattle.checker.specs.Check.{check_answer, check_told}

-- n units of a kind, in order and each with a good seal, under a suite, a key and a book number
pub record ManyUnits (kind : Kind) (suite : Suite) (key : List ℕ) (number : ℕ) (us : List BookUnit) (n : ℕ) : Type 0 where
  pub listed_suite : listed suite.cipher suite.steps ≡ true
  pub key_long : length key ≡ 16
  pub key_bytes : Bytes key
  pub number_fits : number < 2 ^ 64
  pub units : EachFrom (Allowed kind) 0 us
  pub count : length us ≡ n

-- the opening fields, these units, and any bytes behind them
abbrev pub units_then : Kind → Suite → List ℕ → ℕ → List BookUnit → List ℕ → List ℕ
units_then kind suite key number us rest = opening_fields suite number ++ (units_bytes kind suite key number 0 us ++ rest)

-- a unit's header stands there, or both fields of a close
abbrev pub header_there : Kind → List ℕ → Bool
header_there kind s = has_field kind.header_tag (header_bytes kind) s

abbrev pub close_there : Kind → List ℕ → Bool
close_there kind s = has_field kind.close_tag kind.number_bytes s && has_field 0x12 16 (after_field kind.number_bytes s)

pub record LimitLaw : Type 0 where
  -- check of a string of kind 10 never answers 13
  pub never : (key s : List ℕ) → Bytes s → book_kind s ≡ Tag10 → (check_told (check_answer key s)).number ≢ 13
  -- 65,536 units of kind 10 are one more than a book of that kind has: a close behind them is refused with 15, as is another unit; any other
  -- bytes with 14
  pub old : (suite : Suite) (key : List ℕ) (number : ℕ) (us : List BookUnit) → ManyUnits kind10 suite key number us 65536
      → (rest : List ℕ) → Bytes rest
      → check_told (check_answer key (units_then kind10 suite key number us rest))
      ≡ refuses (cond (cond (begins_close kind10 rest) (close_there kind10 rest) (header_there kind10 rest)) 15 14)
  -- behind 16,777,215 units of kind 14 another unit is refused with 13
  pub wide : (suite : Suite) (key : List ℕ) (number : ℕ) (us : List BookUnit) → ManyUnits kind14 suite key number us 16777215
      → (rest : List ℕ) → header_there kind14 rest ≡ true
      → check_told (check_answer key (units_then kind14 suite key number us rest)) ≡ refuses 13

pub record OneKindLaw : Type 0 where
  -- behind units of a kind, what begins neither as that kind's close nor with its unit header is refused with 14: so a unit or a close of another
  -- kind is
  pub mixed : (k : BookKind) (suite : Suite) (key : List ℕ) (number : ℕ) (us : List BookUnit) (n : ℕ) → ManyUnits (kind_of k) suite key number us n
      → 0 < n → n ≤ most_units → n ≤ 256 ^ (kind_of k).number_bytes
      → (rest : List ℕ) → begins_close (kind_of k) rest ≡ false → header_there (kind_of k) rest ≡ false
      → check_told (check_answer key (units_then (kind_of k) suite key number us rest)) ≡ refuses 14
