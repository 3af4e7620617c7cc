-- Demand 3 holds: of each kind by the writer's half and the checker's, and check takes a book by its own kind.
use Rattle.suites.specs.Answer.{Answer}
use mathlib.Core.Path.{◌≡◌, refl, sym, ap, subst, ◌∙◌}
use mathlib.Core.Bool.{Bool, true}
use mathlib.Core.List.{List, [], ◌∷◌, map}
use Prim.Native.Nat.{ℕ, ◌<◌}
use native.Mathlib.Omega.{arith}
use lib.ListN.{length, get_or}
use Rattle.bits.specs.Bytes.{Bytes}
use Rattle.suites.specs.Told.{Told, gives, told}
use Rattle.fields.specs.Each.{Each, none, more, EachFrom, none_from, more_from}
use Rattle.fields.specs.Kind.{Kind, WellFormed}
use Rattle.kinds.specs.declared.Kind.{Kind as BookKind}
use Rattle.kinds.specs.Kind.{kind_of, book_kind}
use Rattle.kinds.proofs.Formed.{formed, newest_is}
use Rattle.format.specs.Layout.{book_bytes, book_length, Bookable}
use Rattle.format.specs.Sealings.{call_total}
use Rattle.fields.specs.Unit.{BookUnit, Allowed}
use Rattle.fields.proofs.Each.{each_append}
use Rattle.format.proofs.Lengths.{length_units_bytes, length_book_bytes}
use Rattle.format.proofs.One.{laid_one}
use Rattle.writer_calls.specs.History.{add, Callable, adds, closes, Start, started, has_close, sealings}
use Rattle.writer_calls.specs.Left.{laid_out, sealed_of, Leaves as WriterLeaves, writing}
use Rattle.writer_calls.proofs.Left.{writer_half}
use Rattle.writer_state.proofs.Passed.{start_passes}
use Rattle.checker.specs.Check.{check_answer, check_told}
use Rattle.checker.specs.Exact.{book_sealings, IsBook}
use Rattle.checker.proofs.BookKinds.{is_own, unit_kind}
use Rattle.checker.proofs.Exact.{checker_half}
use Rattle.checker.proofs.Told.{told_accepted}
use Rattle.parser.proofs.Frames.{readable}
use Rattle.book.specs.Demand3.{History, after, units_added, leaves, LeavesBook, Demand3}

-- allowed units can be handed to adds
adds_all : {kind : Kind} {n : ℕ} {us : List BookUnit} → EachFrom (Allowed kind) n us → Each (Callable kind) (map add us)
adds_all none_from = none
adds_all (more_from a each) = more (adds a.given) (adds_all each)

-- whether a list has an accepted close
abbrev closed : {kind : Kind} → History kind → Bool
closed {kind} h = has_close kind h.calls (started h.start)

module _ (kind : Kind) (formed : WellFormed kind) where
  left : (h : History kind) → WriterLeaves kind h.start (units_added h) (closed h) (sealings kind h.calls (started h.start)) (after h)
  left h = (writer_half kind formed).leaves h.start h.calls h.callable

  -- with an accepted close, what is left is the book of the units, and the writer has its count and its call total
  module _ (h : History kind) (us : List BookUnit) (same : units_added h ≡ us) (close : closed h ≡ true) where
    left-bytes : leaves h ≡ book_bytes kind h.start.suite h.start.key h.start.number us
    unfolding laid_out book_bytes
    left-bytes = (left h).before ∙ (λ j. laid_out kind h.start (same j) (close j))

    left-count : (after h).writer.count ≡ length us
    left-count = (left h).count ∙ ap length same

    left-total : (after h).writer.total ≡ call_total (book_sealings kind h.start.suite h.start.number us)
    unfolding sealed_of book_sealings
    left-total =
        (left h).total ∙ (left h).sum ∙ ap call_total (left h).sealed ∙ (λ j. call_total (sealed_of kind h.start (same j) (close j)))

  -- so that string is a book, under the key that is named
  module _ (h : History kind) {key x : List ℕ} (l : LeavesBook h key x) where
    pub left_bookable : Bookable kind h.start.suite key h.start.number (units_added h)
    left_bookable = subst (λ (k : List ℕ). Bookable kind h.start.suite k h.start.number (units_added h)) l.under (left h).bookable

    pub left_book : book_bytes kind h.start.suite key h.start.number (units_added h) ≡ x
    left_book =
        sym (ap (λ (k : List ℕ). book_bytes kind h.start.suite k h.start.number (units_added h)) l.under)
        ∙ sym (left-bytes h (units_added h) refl l.closed)
        ∙ l.string

    pub left_counted : length (units_added h) ≡ (after h).writer.count
    left_counted = sym (left-count h (units_added h) refl l.closed)

  left_is : (h : History kind) {key x : List ℕ} {n t : ℕ} → LeavesBook h key x → (after h).writer.count ≡ n → (after h).writer.total ≡ t → IsBook kind key x n t
  left_is h l count total =
      record {
        suite = h.start.suite;
        number = h.start.number;
        units = units_added h;
        bookable = left_bookable h l;
        bytes = left_book h l;
        count = left_counted h l ∙ count;
        total = sym (left-total h (units_added h) refl l.closed) ∙ total;
      }

  -- every book can be written; a buffer of its length is enough, as the book itself
  is-left : {key x : List ℕ} {n t : ℕ} → Bytes x → IsBook kind key x n t
      → (h : History kind) × LeavesBook h key x × ((after h).writer.count ≡ n) × ((after h).writer.total ≡ t) × (h.start.buffer ≡ x)
  is-left {key} {x} bytes i =
      let b = i.bookable in
      let long : length x ≡ book_length kind i.units =
      sym (ap length i.bytes) ∙ length_book_bytes kind i.suite key i.number i.units b.units in
      let start : Start = record {
        suite = i.suite;
        key = key;
        number = i.number;
        buffer = x;
        key_bytes = b.key_bytes;
        buffer_bytes = bytes;
        number_fits = b.number_fits;
        accepted =
            ap (λ (a : Answer). (told a).number)
            (start_passes i.suite (length key) (length x)
            (record {
              listed_suite = b.listed_suite;
              key = b.key_long;
              enough = omega (arith, length_units_bytes kind i.suite key i.number 0 i.units b.units);
            }));
      } in
      let h : History kind = record { start = start; calls = writing i.units; callable = each_append (adds_all b.units) (more closes none) } in
      let w = (writer_half kind formed).writes start i.units b.units b.few (omega arith) in (
        h,
        record { under = refl; closed = w.1; string = left-bytes h i.units w.0 w.1 ∙ i.bytes },
        left-count h i.units w.0 w.1 ∙ i.count,
        left-total h i.units w.0 w.1 ∙ i.total,
        refl,
      )

-- check accepts what a list with an accepted close leaves, with its writer's count and call total
pub left_checks : (k : BookKind) (h : History (kind_of k)) {key x : List ℕ} → LeavesBook h key x
    → check_told (check_answer key x) ≡ gives ((after h).writer.count ∷ (after h).writer.total ∷ [])
unfolding check_answer
left_checks k h {key} {x} l =
    let book = is_own k (left_is (kind_of k) (formed k) h l refl refl) in
    ap check_told ((checker_half (kind_of (book_kind x)) (readable (book_kind x))).accepts key x (after h).writer.count (after h).writer.total book)

-- and what check accepts is left by such a list of the book's own kind, in a buffer of its length
pub checks_left : (key x : List ℕ) → Bytes key → Bytes x → (n t : ℕ) → check_told (check_answer key x) ≡ gives (n ∷ t ∷ [])
    → (h : History (kind_of (book_kind x))) × LeavesBook h key x × ((after h).writer.count ≡ n) × ((after h).writer.total ≡ t) × (h.start.buffer ≡ x)
unfolding check_answer
checks_left key x key_bytes bytes n t e =
    let k = book_kind x in
    is-left (kind_of k) (formed k) bytes
    ((checker_half (kind_of k) (readable k)).accepted key x n t key_bytes bytes (told_accepted (check_answer key x) n t e))

-- one list of units, of lists of one kind
one_kind : (k : BookKind) (h₁ h₂ : History (kind_of k)) → h₁.start.key ≡ h₂.start.key → leaves h₁ ≡ leaves h₂ → units_added h₁ ≡ units_added h₂
unfolding laid_out
one_kind k h₁ h₂ same e =
    let l₁ = left (kind_of k) (formed k) h₁ in
    let l₂ = left (kind_of k) (formed k) h₂ in
    (laid_one (kind_of k) (formed k) (closed h₁) (closed h₂) l₁.bookable l₂.bookable same (sym l₁.before ∙ e ∙ l₂.before)).2

-- and whatever the kinds of lists that leave one book
module _ (key x : List ℕ) where
  kind-told : (k : BookKind) (h : History (kind_of k)) → LeavesBook h key x → (us : List BookUnit) → units_added h ≡ us → 0 < length us → book_kind x ≡ k
  kind-told k h l [] e some = absurd (omega arith)
  kind-told k h l (u ∷ us) e some =
      let b = left_book (kind_of k) (formed k) h l in
      subst (λ (y : List ℕ). book_kind y ≡ k) ((λ i. book_bytes (kind_of k) h.start.suite key h.start.number (sym e i)) ∙ b)
      (unit_kind k h.start.suite key h.start.number [] u us)

  same_count : (k₁ k₂ : BookKind) (h₁ : History (kind_of k₁)) (h₂ : History (kind_of k₂)) → LeavesBook h₁ key x → LeavesBook h₂ key x
      → length (units_added h₁) ≡ length (units_added h₂)
  same_count k₁ k₂ h₁ h₂ l₁ l₂ =
      left_counted (kind_of k₁) (formed k₁) h₁ l₁
      ∙ ap (λ (t : Told). get_or t.values 0 0) (sym (left_checks k₁ h₁ l₁) ∙ left_checks k₂ h₂ l₂)
      ∙ sym (left_counted (kind_of k₂) (formed k₂) h₂ l₂)

  any-kinds : (k₁ k₂ : BookKind) → k₁ ≡ k₂ → (h₁ : History (kind_of k₁)) (h₂ : History (kind_of k₂)) → LeavesBook h₁ key x → LeavesBook h₂ key x
      → units_added h₁ ≡ units_added h₂
  any-kinds k₁ k₂ e =
      subst (λ (k : BookKind). (h₁ : History (kind_of k₁)) (h₂ : History (kind_of k))
      → LeavesBook h₁ key x → LeavesBook h₂ key x → units_added h₁ ≡ units_added h₂) e
      (λ h₁ h₂ l₁ l₂. one_kind k₁ h₁ h₂ (l₁.under ∙ sym l₂.under) (l₁.string ∙ sym l₂.string))

  one-book : (k₁ k₂ : BookKind) (h₁ : History (kind_of k₁)) (h₂ : History (kind_of k₂)) → LeavesBook h₁ key x → LeavesBook h₂ key x
      → units_added h₁ ≡ units_added h₂
  one-book k₁ k₂ h₁ h₂ l₁ l₂ = by (units_added h₁) (units_added h₂) refl refl (same_count k₁ k₂ h₁ h₂ l₁ l₂)
    where
      by : (us vs : List BookUnit) → units_added h₁ ≡ us → units_added h₂ ≡ vs → length (units_added h₁) ≡ length (units_added h₂) → units_added h₁ ≡ units_added h₂
      by [] [] e f c = e ∙ sym f
      by [] (v ∷ vs) e f c = let z = ap length e in let y = ap length f in absurd (omega arith)
      by (u ∷ us) [] e f c = let z = ap length e in let y = ap length f in absurd (omega arith)
      by (u ∷ us) (v ∷ vs) e f c =
          any-kinds k₁ k₂ (sym (kind-told k₁ h₁ l₁ (u ∷ us) e (omega arith)) ∙ kind-told k₂ h₂ l₂ (v ∷ vs) f (omega arith)) h₁ h₂ l₁ l₂

-- the lists of each kind, and check by the book's own kind
pub demand3 : Demand3
unfolding check_answer laid_out
demand3 =
    record {
      apart = λ k h. (left (kind_of k) (formed k) h).apart;
      total = λ k h. let l = left (kind_of k) (formed k) h in (l.total ∙ l.sum, l.total);
      exact = λ key x key_bytes bytes n t. (
        λ e. let (h, l, count, total, buffer) = checks_left key x key_bytes bytes n t e in (book_kind x, h, l, count, total),
        λ (k, h, l, count, total). left_checks k h l ∙ (λ j. gives (count j ∷ total j ∷ [])),
      );
      one = one_kind;
      one_book = one-book;
      written = λ k. writer_half (kind_of k) (formed k);
      newest = newest_is;
    }
