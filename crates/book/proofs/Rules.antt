-- The law on rules: check over a rule of books that a writer leaves, and the earlier rule.
use Rattle.parser.specs.declared.frame.Frame.TheVariants.{Close, Unit}
use Rattle.std.specs.Prelude.{Ok, Err}
use mathlib.Core.Path.{◌≡◌, refl, sym, ap, subst, ◌∙◌}
use mathlib.Core.Bool.{Bool, true, false, true≢false, not, ◌&&◌, cond, and-eq-true_iff, and-false}
use mathlib.Core.List.{List, [], ◌∷◌, ◌++◌}
use mathlib.Core.Logic.{◌↔◌, ◌≢◌}
use Prim.Native.Nat.{ℕ, zero, suc, ◌+◌, ◌^◌, ◌≤◌, ◌<◌}
use native.Mathlib.Omega.{arith}
use lib.ListN.{length}
use Rattle.bits.specs.Bytes.{Bytes, same_bytes}
use Rattle.bits.proofs.Same.{same_equal, same_refl}
use Rattle.suites.specs.declared.refusal.Refusal.TheVariants.{LanguagesNotAllowed}
use Rattle.suites.specs.declared.suite.Suite.{Suite}
use Rattle.suites.specs.Told.{gives, refuses}
use Rattle.fields.specs.Each.{EachFrom, none_from, more_from}
use Rattle.fields.specs.Kind.{Kind, WellFormed}
use Rattle.fields.specs.Languages.{letters, pair_allowed}
use Rattle.fields.specs.Unit.{BookUnit, Given, Allowed, in_range, unit_text}
use Rattle.kinds.specs.declared.Kind.{Kind as BookKind}
use Rattle.kinds.specs.Kind.{kind_of, book_kind}
use Rattle.kinds.specs.Lengths.{unit_calls}
use Rattle.kinds.proofs.Formed.{formed}
use Rattle.format.specs.Layout.{unit_bytes, book_bytes, Bookable}
use Rattle.format.specs.Sealings.{opening_fields}
use Rattle.parser.specs.Frame.{most_units, after_unit, Readable}
use Rattle.parser.proofs.Frames.{readable}
use Rattle.opening_fields.specs.Opening.{opening_number, opening_suite, opening_bytes, after_opening, check_tests}
use Rattle.opening_fields.proofs.Openings.{front_says}
use Rattle.checker.specs.Check.{check_told, checked_at, after_tests, check_answer, CheckAnswer}
use Rattle.checker.proofs.BookKinds.{own_kind}
use Rattle.checker.proofs.Closes.{close_written}
use Rattle.checker.proofs.Exact.{opens, book_is}
use Rattle.checker.proofs.From.{bytes_from, bytes_none, bytes_more}
use Rattle.checker.proofs.Units.{unit_written, unit_codes}
use Rattle.book.specs.Demand3.{History, after, units_added, LeavesBook}
use Rattle.book.specs.Rules.{Rule, pair_allowed_before, checked_under, check_from_under, check_under, all_under, RuleLaw}
use Rattle.book.proofs.Demand3.{left_bookable, left_book, left_checks}
use Rattle.book.proofs.TwoRules.{now_checked, now_check, or_languages, checked_unit, checked_close, step_under, check_kept, wide_check}

-- units that are written, then the close
abbrev or_refused : Bool → CheckAnswer → CheckAnswer
or_refused ok answer = cond ok answer (Err LanguagesNotAllowed)

module _ (rule : Rule) (kind : Kind) (wf : WellFormed kind) (key o : List ℕ) (held : o ≡ opening_fields (opening_suite o) (opening_number o))
    (long : length key ≡ 16) (key_bytes : Bytes key) where
  abbrev frames_of : ℕ → List BookUnit → List ℕ
  frames_of n us = bytes_from kind (opening_suite o) key (opening_number o) n us

  units_under : (left n total : ℕ) (us : List BookUnit) → EachFrom (Allowed kind) n us → length us < left → n + length us ≤ most_units
      → n + length us < 256 ^ kind.number_bytes
      → check_from_under rule kind key o left n total (frames_of n us)
      ≡ or_refused (all_under rule us) (check_from_under pair_allowed kind key o left n total (frames_of n us))
  unfolding all_under
  units_under zero n total us each less few fits = absurd (omega arith)
  units_under (suc left) n total [] none_from less few fits =
      let there : checked_under pair_allowed kind key o n (frames_of n []) ≡ (Ok Close) =
      now_checked kind key o n (frames_of n [])
      ∙ ap (checked_at kind key o n) (bytes_none kind (opening_suite o) key (opening_number o) n)
      ∙ close_written kind key o held long key_bytes n wf (omega arith) in
      step_under rule kind key o left n total (frames_of n []) (Ok Close) (checked_close pair_allowed rule kind n (frames_of n []) key o there)
      ∙ sym (step_under pair_allowed kind key o left n total (frames_of n []) (Ok Close) there)
  units_under (suc left) n total (u ∷ us) (more_from a each) less few fits =
      let m : ℕ = length (unit_text u.source u.target) in
      let suite = opening_suite o in
      let number = opening_number o in
      let rest : List ℕ = frames_of (suc n) us in
      let s : List ℕ = unit_bytes kind suite key number n u ++ rest in
      let w = unit_written kind key o held long key_bytes n wf (omega arith) (omega arith) u a rest in
      let codes = unit_codes kind key o held long key_bytes n wf (omega arith) (omega arith) u a rest in
      let there : checked_under pair_allowed kind key o n s ≡ Ok (Unit m) = now_checked kind key o n s ∙ w.0 in
      let under : checked_under rule kind key o n s ≡ or_languages (rule u.from u.to) m =
      checked_unit pair_allowed rule kind n s key o m there ∙ (λ i. or_languages (rule (codes.0 i) (codes.1 i)) m) in
      let more = units_under left (suc n) (total + unit_calls kind m) us each (omega arith) (omega arith) (omega arith) in
      subst
      (λ (x : List ℕ). check_from_under rule kind key o (suc left) n total x
      ≡ or_refused (rule u.from u.to && all_under rule us) (check_from_under pair_allowed kind key o (suc left) n total x))
      (sym (bytes_more kind suite key number n u us))
      (by (rule u.from u.to) m rest s w.1 there under more)
    where
      by : (ok : Bool) (m : ℕ) (rest s : List ℕ) → after_unit kind m s ≡ rest → checked_under pair_allowed kind key o n s ≡ Ok (Unit m)
          → checked_under rule kind key o n s ≡ or_languages ok m
          → check_from_under rule kind key o left (suc n) (total + unit_calls kind m) rest
          ≡ or_refused (all_under rule us) (check_from_under pair_allowed kind key o left (suc n) (total + unit_calls kind m) rest)
          → check_from_under rule kind key o (suc left) n total s
          ≡ or_refused (ok && all_under rule us) (check_from_under pair_allowed kind key o (suc left) n total s)
      by true m rest s then there under more =
          step_under rule kind key o left n total s (Ok (Unit m)) under
          ∙ ap (check_from_under rule kind key o left (suc n) (total + unit_calls kind m)) then
          ∙ more
          ∙ ap (or_refused (all_under rule us))
          (ap (check_from_under pair_allowed kind key o left (suc n) (total + unit_calls kind m)) (sym then)
          ∙ sym (step_under pair_allowed kind key o left n total s (Ok (Unit m)) there))
      by false m rest s then there under more = step_under rule kind key o left n total s (Err LanguagesNotAllowed) under

-- a book
module _ (kind : Kind) (suite : Suite) (key : List ℕ) (number : ℕ) (us : List BookUnit) (book : Bookable kind suite key number us) where
  abbrev front : List ℕ
  front = opening_fields suite number

  -- check over a rule, and over the one that holds now
  abbrev over : Rule → CheckAnswer
  over rule =
      let x = book_bytes kind suite key number us in
      after_tests (check_tests (length key) x) (check_from_under rule kind key (opening_bytes x) (suc most_units) 0 0 (after_opening x))

  book-under : Readable kind → (rule : Rule) → over rule ≡ or_refused (all_under rule us) (over pair_allowed)
  book-under reads rule =
      let says = front_says suite number book.number_fits in
      let runs : Rule → List ℕ → List ℕ → CheckAnswer = λ rule o r. check_from_under rule kind key o (suc most_units) 0 0 r in
      let named : (rule : Rule) → over rule ≡ runs rule front (bytes_from kind (opening_suite front) key (opening_number front) 0 us) =
      λ rule. (λ i. let y = book_is kind suite key number us i in after_tests (check_tests (length key) y) (runs rule (opening_bytes y) (after_opening y)))
      ∙ opens suite key number (bytes_from kind suite key number 0 us) book.listed_suite book.key_long book.number_fits (runs rule)
      ∙ (λ i. runs rule front (bytes_from kind (sym says.0 i) key (sym says.1 i) 0 us)) in
      named rule
      ∙ units_under rule kind reads.well_formed key front (λ i. opening_fields (sym says.0 i) (sym says.1 i)) book.key_long book.key_bytes
      (suc most_units) 0 0 us book.units (omega arith) (omega arith) (omega arith)
      ∙ ap (or_refused (all_under rule us)) (sym (named pair_allowed))

-- of what a list of calls leaves
module _ (rule : Rule) (key x : List ℕ) (k : BookKind) (h : History (kind_of k)) (l : LeavesBook h key x) where
  abbrev us : List BookUnit
  us = units_added h

  list-under : check_under rule key x ≡ or_refused (all_under rule us) (check_answer key x)
  unfolding check_under
  list-under =
      let suite = h.start.suite in
      let number = h.start.number in
      let b : Bookable (kind_of k) suite key number us = left_bookable (kind_of k) (formed k) h l in
      let own = own_kind k suite key number us b in
      let q : BookKind = book_kind (book_bytes (kind_of k) suite key number us) in
      subst (λ (y : List ℕ). check_under rule key y ≡ or_refused (all_under rule us) (check_answer key y)) (left_book (kind_of k) (formed k) h l)
      (subst (λ (y : List ℕ). check_for rule q y ≡ or_refused (all_under rule us) (check_for pair_allowed q y)) own.bytes
      (book-under (kind_of q) suite key number us own.bookable (readable q) rule)
      ∙ ap (or_refused (all_under rule us)) (now_check key (book_bytes (kind_of k) suite key number us)))
    where
      check_for : Rule → BookKind → List ℕ → CheckAnswer
      check_for rule q y = after_tests (check_tests (length key) y) (check_from_under rule (kind_of q) key (opening_bytes y) (suc most_units) 0 0 (after_opening y))

  told_under : check_told (check_under rule key x)
      ≡ cond (all_under rule us) (gives ((after h).writer.count ∷ (after h).writer.total ∷ [])) (refuses 11)
  told_under = ap check_told list-under ∙ by (all_under rule us)
    where
      by : (ok : Bool) → check_told (or_refused ok (check_answer key x))
          ≡ cond ok (gives ((after h).writer.count ∷ (after h).writer.total ∷ [])) (refuses 11)
      by true = left_checks k h l
      by false = refl

-- the earlier rule: it allows less, and no code twice
before_less : (from to : List ℕ) → pair_allowed_before from to ≡ true → pair_allowed from to ≡ true
unfolding pair_allowed_before pair_allowed
before_less from to e =
    let source = (and-eq-true_iff (letters from) (letters to && not (same_bytes (length from) from to))).0 e in
    let target = (and-eq-true_iff (letters to) (not (same_bytes (length from) from to))).0 source.1 in
    (and-eq-true_iff (letters from) (letters to)).1 (source.0, target.0)

twice_before : (from to : List ℕ) → from ≡ to → pair_allowed_before from to ≡ false
unfolding pair_allowed_before
twice_before from to e = ap (pair_allowed_before from) (sym e) ∙ rw (same_refl (length from) from) (by (letters from))
  where
    by : (v : Bool) → (v && (v && false)) ≡ false
    by true = refl
    by false = refl

before_is : (from to : List ℕ) → length from ≡ length to
    → (pair_allowed_before from to ≡ true) ↔ ((letters from ≡ true) × (letters to ≡ true) × (from ≢ to))
unfolding pair_allowed_before
before_is from to long = (says, allowed)
  where
    other : Bool
    other = not (same_bytes (length from) from to)

    says : pair_allowed_before from to ≡ true → (letters from ≡ true) × (letters to ≡ true) × (from ≢ to)
    says e =
        let source = (and-eq-true_iff (letters from) (letters to && other)).0 e in
        let target = (and-eq-true_iff (letters to) other).0 source.1 in
        (source.0, target.0, λ q. let z : true ≡ false = sym e ∙ twice_before from to q in absurd (true≢false z))

    by : (v : Bool) → same_bytes (length from) from to ≡ v → (from ≢ to) → not v ≡ true
    by true q d = absurd (d (same_equal (length from) from to refl (sym long) q))
    by false q d = refl

    allowed : (letters from ≡ true) × (letters to ≡ true) × (from ≢ to) → pair_allowed_before from to ≡ true
    allowed (a, b, d) =
        (and-eq-true_iff (letters from) (letters to && other)).1
        (a, (and-eq-true_iff (letters to) other).1 (b, by (same_bytes (length from) from to) refl d))

-- one unit that is not allowed is enough
not_all : (rule : Rule) (us : List BookUnit) (u : BookUnit) (vs : List BookUnit) → rule u.from u.to ≡ false → all_under rule (us ++ u ∷ vs) ≡ false
unfolding all_under
not_all rule [] u vs e = ap (λ (b : Bool). b && all_under rule vs) e
not_all rule (w ∷ us) u vs e = ap (λ (b : Bool). rule w.from w.to && b) (not_all rule us u vs e) ∙ and-false (rule w.from w.to)

twice_allowed : (k : BookKind) (n : ℕ) (u : BookUnit) → Given (kind_of k) u → in_range (length u.source) (length u.target) ≡ true
    → letters u.from ≡ true → u.from ≡ u.to → Allowed (kind_of k) n u
unfolding pair_allowed
twice_allowed k n u given range ok same =
    record { given = given; languages = (and-eq-true_iff (letters u.from) (letters u.to)).1 (ok, ap letters (sym same) ∙ ok); range = range }

pub rule_law : RuleLaw
rule_law =
    record {
      now = now_check;
      kept = check_kept;
      wider = wide_check;
      before = before_is;
      still = λ key s n t e. ap check_told (sym (now_check key s)) ∙ wide_check pair_allowed_before pair_allowed before_less key s n t e;
      under = told_under;
      allowed = twice_allowed;
      joined = λ key x k h l us u vs has same. (
        told_under pair_allowed_before key x k h l
            ∙ ap (λ (ok : Bool). cond ok (gives ((after h).writer.count ∷ (after h).writer.total ∷ [])) (refuses 11))
            (ap (all_under pair_allowed_before) has ∙ not_all pair_allowed_before us u vs (twice_before u.from u.to same)),
        left_checks k h l,
      );
    }
