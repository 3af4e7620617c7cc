-- Fetching from a book that a writer has left, as a statement over the lists of calls of demand 3; proofs/Fetched proves it. By demand 3 (3)
-- these are exactly the strings that check accepts, and such a string has one list of units (one_book).
use Rattle.std.specs.Prelude.{◌≡◌, List, [], ◌∷◌, ◌++◌, ℕ, ◌≤◌, length}
use Rattle.bits.specs.Bytes.{Bytes}
use Rattle.suites.specs.Told.{gives}
use Rattle.fields.specs.Kind.{Kind}
use Rattle.fields.specs.Unit.{BookUnit}
use Rattle.checker.specs.Check.{check_answer, check_told}
use Rattle.kinds.specs.declared.Kind.{Kind as BookKind}
use Rattle.kinds.specs.Kind.{kind_of}
use Rattle.fetch.specs.Exact.{HandsOut, NoUnit, ClosesAt, PartOf, place_behind, StandsAt, SaysClear}
use Rattle.book.specs.Demand3.{History, units_added, LeavesBook}

-- what fetch gives of a string x that a list of calls leaves under a key, of which n units are counted
pub record FetchesBook {kind : Kind} (list : History kind) (key x : List ℕ) (n : ℕ) : Type 0 where
  pub count : length (units_added list) ≡ n
  -- fetch of each k below the count gives exactly unit k of the list
  pub unit : (before : List BookUnit) (u : BookUnit) (after : List BookUnit) → units_added list ≡ before ++ u ∷ after → HandsOut key x (length before) u
  -- and of each other k gives 16
  pub none : (k : ℕ) → n ≤ k → NoUnit key x k
  -- the ciphertext part is that unit's field 11
  pub part : (before : List BookUnit) (u : BookUnit) (after : List BookUnit) → units_added list ≡ before ++ u ∷ after
      → PartOf kind list.start.suite key list.start.number before u x
  -- at its place it is handed out too, with the place of the next one
  pub placed : (before : List BookUnit) (u : BookUnit) (after : List BookUnit) → units_added list ≡ before ++ u ∷ after
      → StandsAt kind list.start.suite key list.start.number before u x
  -- what is said in the clear is that unit's
  pub clear : (before : List BookUnit) (u : BookUnit) (after : List BookUnit) → units_added list ≡ before ++ u ∷ after
      → SaysClear kind list.start.suite key list.start.number before u x
  -- and at the place behind the last unit stands the close: 16
  pub closes : ClosesAt key x (length (units_added list)) (place_behind kind list.start.suite key list.start.number (units_added list))

-- in a book that check accepts, and of every list that leaves it; there is one by demand 3 (3)
pub record FetchLaw : Type 0 where
  pub accepted : (key x : List ℕ) → Bytes key → Bytes x → (n t : ℕ) → check_told (check_answer key x) ≡ gives (n ∷ t ∷ [])
      → (k : BookKind) (list : History (kind_of k)) → LeavesBook list key x → FetchesBook list key x n
