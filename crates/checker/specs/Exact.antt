-- The checker's half of demand 3, as a statement: check accepts, of a kind, exactly the books of the layout. proofs/Exact proves it for every
-- kind that can be read.
use Rattle.std.specs.Prelude.{◌≡◌, List, [], ◌∷◌, ◌++◌, ℕ, length}
use Rattle.bits.specs.Bytes.{Bytes}
use Rattle.suites.specs.declared.suite.Suite.{Suite}
use Rattle.fields.specs.Kind.{Kind}
use Rattle.format.specs.Layout.{book_bytes, Bookable}
use Rattle.format.specs.Sealings.{Sealing, unit_sealings, close_sealing, call_total}
use Rattle.fields.specs.Unit.{BookUnit}
use Rattle.checker.specs.Check.{check_answer_of, accepted as told}

-- the sealings of a whole book: its units', then its close's
unfoldable pub book_sealings : Kind → Suite → ℕ → List BookUnit → List Sealing
book_sealings kind suite number us = unit_sealings kind suite number 0 us ++ close_sealing kind suite number (length us) ∷ []

-- a string is a book under a key, of some suite, number and units: with n units and t cipher calls
pub record IsBook (kind : Kind) (key s : List ℕ) (n t : ℕ) : Type 0 where
  pub suite : Suite
  pub number : ℕ
  pub units : List BookUnit
  pub bookable : Bookable kind suite key number units
  pub bytes : book_bytes kind suite key number units ≡ s
  pub count : length units ≡ n
  pub total : call_total (book_sealings kind suite number units) ≡ t

pub record CheckerHalf (kind : Kind) : Type 0 where
  -- what is accepted is a book, with the count and the call total that are returned
  pub accepted : (key s : List ℕ) (n t : ℕ) → Bytes key → Bytes s → check_answer_of kind key s ≡ told n t → IsBook kind key s n t
  -- every book is accepted
  pub accepts : (key s : List ℕ) (n t : ℕ) → IsBook kind key s n t → check_answer_of kind key s ≡ told n t
