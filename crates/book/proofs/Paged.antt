-- Of every string that check accepts the page has the rows of the units of each list of calls that leaves it.
use Rattle.std.specs.Prelude.{Ok, Err}
use mathlib.Core.Path.{◌≡◌, refl, sym, ap, ◌∙◌}
use mathlib.Core.List.{List, ◌++◌}
use Prim.Native.Nat.{ℕ, ◌*◌}
use native.Mathlib.Omega.{arith}
use lib.ListN.{length, drop}
use Rattle.suites.specs.Told.{Told, refuses}
use Rattle.kinds.specs.declared.Kind.{Kind as BookKind}
use Rattle.kinds.specs.Kind.{kind_of, book_kind}
use Rattle.kinds.proofs.Formed.{formed}
use Rattle.opening_fields.specs.Opening.{opening_bytes, after_opening}
use Rattle.checker.specs.Check.{check_answer, check_told, CheckAnswer, accepted}
use Rattle.checker.proofs.Told.{told_accepted}
use Rattle.page.specs.Page.{rows, sources_from, page_told, page_answer, page_buffer}
use Rattle.page.proofs.Pages.{page_refused, page_short, page_written, accepted_long}
use Rattle.page.proofs.Written.{book_sources}
use Rattle.book.specs.Demand3.{History, after, units_added, LeavesBook}
use Rattle.book.specs.Paged.{unit_rows, PagesBook, PageLaw}
use Rattle.book.proofs.Demand3.{left_bookable, left_book, left_counted}
use Rattle.book.proofs.Fetched.{counted}

module _ (q : BookKind) (h : History (kind_of q)) {key x : List ℕ} (l : LeavesBook h key x) (n t : ℕ) (count : (after h).writer.count ≡ n)
    (e : check_answer key x ≡ accepted n t) (typed : List ℕ) where
  all : length (units_added h) ≡ n
  all = left_counted (kind_of q) (formed q) h l ∙ count

  -- the rows that the page has are those of the list's units
  rows_are : rows typed (sources_from (kind_of (book_kind x)) key (opening_bytes x) n 0 (after_opening x)) ≡ unit_rows h typed
  rows_are =
      let x-is = left_book (kind_of q) (formed q) h l in
      ap (rows typed) ((λ i. sources_from (kind_of (book_kind (sym x-is i))) key (opening_bytes (sym x-is i)) (sym all i) 0 (after_opening (sym x-is i)))
      ∙ book_sources q h.start.suite key h.start.number (units_added h) (left_bookable (kind_of q) (formed q) h l))

  pages : PagesBook h key x n typed
  pages =
      record {
        count = all;
        long = ap length (sym rows_are) ∙ accepted_long key x typed n t e;
        written = λ page room.
            let w = page_written key x typed page n t e room in
            (ap page_told (sym w.0), sym w.1 ∙ ap (λ (r : List ℕ). r ++ drop (12 * n) page) rows_are);
        short = λ page room.
            let w = page_short key x typed page n t e room in
            (ap page_told (sym w.0), sym w.1);
      }

refused_as : (a : CheckAnswer) (why : ℕ) → check_told a ≡ refuses why → (key x : List ℕ) → check_answer key x ≡ a → (typed page : List ℕ)
    → (page_told (page_answer key x typed page) ≡ refuses why) × (page_buffer key x typed page ≡ page)
refused_as (Ok totals) why e key x is typed page =
    let two : ◌≡◌ {A = ℕ} 2 0 = ap (λ (r : Told). length r.values) e in absurd (omega arith)
refused_as (Err w) why e key x is typed page =
    let both = page_refused key x typed page w is in
    (ap page_told (sym both.0) ∙ e, sym both.1)

pub page_law : PageLaw
page_law =
    record {
      accepted = λ key x key_bytes bytes n t e q h l typed.
          pages q h l n t (counted key_bytes bytes n t e q h l) (told_accepted (check_answer key x) n t e) typed;
      refused = λ key x why e. refused_as (check_answer key x) why e key x refl;
    }
