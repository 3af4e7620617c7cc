-- Of every string that check accepts fetch gives exactly the units of each list of calls that leaves it.
use mathlib.Core.Path.{◌≡◌, refl, sym, ap, subst, ◌∙◌}
use mathlib.Core.List.{List, [], ◌∷◌, ◌++◌}
use Prim.Native.Nat.{ℕ, ◌≤◌}
use native.Mathlib.Omega.{arith}
use lib.ListN.{length, get_or}
use Rattle.bits.specs.Bytes.{Bytes}
use Rattle.suites.specs.Told.{Told, gives}
use Rattle.kinds.specs.declared.Kind.{Kind as BookKind}
use Rattle.kinds.specs.Kind.{kind_of}
use Rattle.kinds.proofs.Formed.{formed}
use Rattle.fields.specs.Unit.{BookUnit}
use Rattle.format.specs.Layout.{book_bytes, Bookable}
use Rattle.checker.specs.Check.{check_answer, check_told}
use Rattle.fetch.specs.Exact.{HandsOut, NoUnit, ClosesAt, PartOf, place_behind, StandsAt, SaysClear}
use Rattle.fetch.proofs.Exact.{fetches_units}
use Rattle.book.specs.Demand3.{History, after, units_added, LeavesBook}
use Rattle.book.specs.Fetched.{FetchesBook, FetchLaw}
use Rattle.book.proofs.Demand3.{left_bookable, left_book, left_counted, demand3}

module _ (q : BookKind) (h : History (kind_of q)) {key x : List ℕ} (l : LeavesBook h key x) where
  -- a unit of the list
  module _ (before : List BookUnit) (u : BookUnit) (behind : List BookUnit) (e : units_added h ≡ before ++ u ∷ behind) where
    same : book_bytes (kind_of q) h.start.suite key h.start.number (before ++ u ∷ behind) ≡ x
    same = ap (book_bytes (kind_of q) h.start.suite key h.start.number) (sym e) ∙ left_book (kind_of q) (formed q) h l

    bookable : Bookable (kind_of q) h.start.suite key h.start.number (before ++ u ∷ behind)
    bookable = subst (Bookable (kind_of q) h.start.suite key h.start.number) e (left_bookable (kind_of q) (formed q) h l)

    unit_of_lem : HandsOut key x (length before) u
    unit_of_lem = rw same at ((fetches_units q).unit h.start.suite key h.start.number before u behind bookable)

    part_of : PartOf (kind_of q) h.start.suite key h.start.number before u x
    part_of = rw same at ((fetches_units q).part h.start.suite key h.start.number before u behind bookable)

    placed_of : StandsAt (kind_of q) h.start.suite key h.start.number before u x
    placed_of = rw same at ((fetches_units q).placed h.start.suite key h.start.number before u behind bookable)

    clear_of : SaysClear (kind_of q) h.start.suite key h.start.number before u x
    clear_of = rw same at ((fetches_units q).clear h.start.suite key h.start.number before u behind bookable)

  none_of : (k : ℕ) → length (units_added h) ≤ k → NoUnit key x k
  none_of k past =
      rw (left_book (kind_of q) (formed q) h l) at
      ((fetches_units q).none h.start.suite key h.start.number (units_added h) (left_bookable (kind_of q) (formed q) h l) k past)

  closes-of : ClosesAt key x (length (units_added h)) (place_behind (kind_of q) h.start.suite key h.start.number (units_added h))
  closes-of =
      rw (left_book (kind_of q) (formed q) h l) at
      ((fetches_units q).closes h.start.suite key h.start.number (units_added h) (left_bookable (kind_of q) (formed q) h l))

  fetches : (n : ℕ) → (after h).writer.count ≡ n → FetchesBook h key x n
  fetches n count =
      let all : length (units_added h) ≡ n = left_counted (kind_of q) (formed q) h l ∙ count in
      record { count = all; unit = unit_of_lem; none = λ k past. none_of k (omega arith); part = part_of; placed = placed_of; clear = clear_of; closes = closes-of }

-- check counts the units of every such list
pub counted : {key x : List ℕ} → Bytes key → Bytes x → (n t : ℕ) → check_told (check_answer key x) ≡ gives (n ∷ t ∷ [])
    → (q : BookKind) (h : History (kind_of q)) → LeavesBook h key x → (after h).writer.count ≡ n
counted {key} {x} key_bytes bytes n t e q h l =
    let count = (after h).writer.count in
    let total = (after h).writer.total in
    let own = (demand3.exact key x key_bytes bytes count total).1 (q, h, l, refl, refl) in
    ap (λ (r : Told). get_or r.values 0 0) (sym own ∙ e)

pub fetch_law : FetchLaw
fetch_law = record { accepted = λ key x key_bytes bytes n t e q h l. fetches q h l n (counted key_bytes bytes n t e q h l) }
