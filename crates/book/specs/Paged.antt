-- The page of a book that a writer has left, as a statement over the lists of calls of demand 3; proofs/Paged proves it. By demand 3 (3) these
-- are exactly the strings that check accepts, and such a string has one list of units (one_book).
use Rattle.std.specs.Prelude.{◌≡◌, List, [], ◌∷◌, ◌++◌, map, ℕ, ◌*◌, ◌≤◌, ◌<◌, length, drop}
use Rattle.bits.specs.Bytes.{Bytes}
use Rattle.suites.specs.Told.{gives, refuses}
use Rattle.fields.specs.Kind.{Kind}
use Rattle.kinds.specs.declared.Kind.{Kind as BookKind}
use Rattle.kinds.specs.Kind.{kind_of}
use Rattle.checker.specs.Check.{check_answer, check_told}
use Rattle.page.specs.Page.{rows, page_answer, page_told, page_buffer}
use Rattle.book.specs.Demand3.{History, units_added, LeavesBook}

-- "one row a unit, in book order": of each unit of a list of calls, in order, the row with its source's length and score
abbrev pub unit_rows : {kind : Kind} → History kind → List ℕ → List ℕ
unit_rows list typed = rows typed (map (λ u. u.source) (units_added list))

-- the page of a string x that a list of calls leaves under a key, of which n units are counted, and a typed sentence
pub record PagesBook {kind : Kind} (list : History kind) (key x : List ℕ) (n : ℕ) (typed : List ℕ) : Type 0 where
  pub count : length (units_added list) ≡ n
  -- 12 bytes a unit
  pub long : length (unit_rows list typed) ≡ 12 * n
  -- "the result stands at its buffer's start, the other bytes stay, and its length in bytes is returned"
  pub written : (page : List ℕ) → 12 * n ≤ length page
      → (page_told (page_answer key x typed page) ≡ gives (12 * n ∷ []))
      × (page_buffer key x typed page ≡ unit_rows list typed ++ drop (12 * n) page)
  -- "a short page buffer gives 7"; it does not write a byte
  pub short : (page : List ℕ) → length page < 12 * n
      → (page_told (page_answer key x typed page) ≡ refuses 7)
      × (page_buffer key x typed page ≡ page)

pub record PageLaw : Type 0 where
  -- in a book that check accepts, and of every list that leaves it; there is one by demand 3 (3)
  pub accepted : (key x : List ℕ) → Bytes key → Bytes x → (n t : ℕ) → check_told (check_answer key x) ≡ gives (n ∷ t ∷ [])
      → (k : BookKind) (list : History (kind_of k)) → LeavesBook list key x → (typed : List ℕ) → PagesBook list key x n typed
  -- "A book that checking refuses gives that refusal"; it does not write a byte
  pub refused : (key x : List ℕ) (why : ℕ) → check_told (check_answer key x) ≡ refuses why → (typed page : List ℕ)
      → (page_told (page_answer key x typed page) ≡ refuses why)
      × (page_buffer key x typed page ≡ page)
