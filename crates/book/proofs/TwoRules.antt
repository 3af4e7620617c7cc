-- Check over two rules, of any string: what it answers over the one and over the other.
use Rattle.suites.specs.Answer.{Answer}
use Rattle.parser.specs.FrameAnswer.{FrameAnswer}
use Rattle.parser.specs.declared.frame.Frame.TheVariants.{Close, Unit}
use Rattle.std.specs.Prelude.{Ok, Err}
use mathlib.Core.Path.{◌≡◌, refl, sym, ap, subst, ◌∙◌}
use mathlib.Core.Bool.{Bool, true, false, cond}
use mathlib.Core.List.{List, [], ◌∷◌}
use mathlib.Core.Logic.{◌⊎◌, inl, inr}
use Prim.Native.Nat.{ℕ, zero, suc, ◌+◌}
use native.Mathlib.Omega.{arith}
use lib.Dec.{eqb, ltb}
use lib.ListN.{length}
use Rattle.suites.specs.declared.refusal.Refusal.TheVariants.{LanguagesNotAllowed, TooManyUnits, FieldMalformed, NumberOutOfOrder}
use Rattle.suites.specs.Told.{Told, gives, refuses}
use Rattle.limits.specs.Tests.{unless}
use Rattle.limits.proofs.Passed.{unless_passed}
use Rattle.fields.specs.Field.{field_length, has_field}
use Rattle.fields.specs.Kind.{Kind}
use Rattle.fields.specs.Languages.{pair_allowed}
use Rattle.kinds.specs.Kind.{kind_of, book_kind}
use Rattle.kinds.specs.Lengths.{header_bytes, unit_calls, close_calls}
use Rattle.parser.specs.Frame.{most_units, frame_number, frame_from, frame_to, after_header, has_sealed, after_unit, unit_tests, close_tests, frame_of, begins_close, frame_at}
use Rattle.opening_fields.specs.Opening.{opening_bytes, after_opening, check_tests}
use Rattle.seals.specs.Seal.{unit_seal_tests, close_seal_tests}
use Rattle.checker.specs.Check.{check_told, with_seal, checked_at, by_frame, check_from, after_tests, check_answer_of, check_answer, CheckAnswer, accepted}
use Rattle.checker.proofs.Sealed.{frame_unit, frame_close, unit_sealed, close_sealed_lem}
use Rattle.book.specs.Rules.{Rule, unit_tests_under, frame_under, checked_under, check_from_under, check_under}

-- over the rule that holds now
module _ (kind : Kind) (key o : List ℕ) where
  pub now_checked : (n : ℕ) (s : List ℕ) → checked_under pair_allowed kind key o n s ≡ checked_at kind key o n s
  unfolding checked_under frame_under unit_tests_under checked_at frame_at unit_tests
  now_checked n s = refl

  now-from : (left n total : ℕ) (s : List ℕ) → check_from_under pair_allowed kind key o left n total s ≡ check_from kind key o left n total s
  unfolding check_from_under check_from
  now-from zero n total s = refl
  now-from (suc left) n total s = λ i.
      by_frame (now_checked n s i) (λ (m : ℕ). now-from left (suc n) (total + unit_calls kind m) (after_unit kind m s) i) (accepted n (total + close_calls kind))

pub now_check : (key s : List ℕ) → check_under pair_allowed key s ≡ check_answer key s
unfolding check_under check_answer check_answer_of
now_check key s =
    ap (after_tests (check_tests (length key) s)) (now-from (kind_of (book_kind s)) key (opening_bytes s) (suc most_units) 0 0 (after_opening s))

-- a unit, or 11
abbrev pub or_languages : Bool → ℕ → FrameAnswer
or_languages ok m = cond ok (Ok (Unit m)) (Err LanguagesNotAllowed)

-- what stands at a place over one rule says what stands there over another
module _ (rule other : Rule) (kind : Kind) (n : ℕ) (s : List ℕ) where
  abbrev allows : Bool
  allows = other (frame_from kind s) (frame_to kind s)

  tests-under : unit_tests_under rule kind n s ≡ Ok tt → unit_tests_under other kind n s ≡ unless allows LanguagesNotAllowed (Ok tt)
  unfolding unit_tests_under
  tests-under e =
      let header = unless_passed (has_field kind.header_tag (header_bytes kind) s) _ _ e in
      let few = unless_passed (ltb n most_units) _ _ header.1 in
      let number = unless_passed (eqb (frame_number kind s) n) _ _ few.1 in
      let pair = unless_passed (rule (frame_from kind s) (frame_to kind s)) _ _ number.1 in
      let sealed = unless_passed (has_sealed (after_header kind s)) _ _ pair.1 in
      rw (header.0, few.0, number.0, sealed.0) refl

  unit-under : (m : ℕ) → frame_under rule kind n s ≡ Ok (Unit m) → frame_under other kind n s ≡ or_languages allows m
  unfolding frame_under
  unit-under m e = by (begins_close kind s) e
    where
      l : ℕ
      l = field_length (after_header kind s)

      of : (ok : Bool) → ◌≡◌ {A = FrameAnswer} (Ok (Unit l)) (Ok (Unit m)) → frame_of (unless ok LanguagesNotAllowed (Ok tt)) (Ok (Unit l)) ≡ or_languages ok m
      of true q = q
      of false q = refl

      by : (v : Bool) → cond v (frame_of (close_tests kind n s) (Ok Close)) (frame_of (unit_tests_under rule kind n s) (Ok (Unit l))) ≡ Ok (Unit m)
          → cond v (frame_of (close_tests kind n s) (Ok Close)) (frame_of (unit_tests_under other kind n s) (Ok (Unit l))) ≡ or_languages allows m
      by true q = let z : (Ok Close) ≡ Ok (Unit m) = (frame_unit (close_tests kind n s) (Ok Close) m q).1 in let y : ◌≡◌ {A = ℕ} 0 1 = cc in absurd (omega arith)
      by false q =
          let both = frame_unit (unit_tests_under rule kind n s) (Ok (Unit l)) m q in
          ap (λ (a : Answer). frame_of a (Ok (Unit l))) (tests-under both.0) ∙ of allows both.1

  close-under : frame_under rule kind n s ≡ Ok Close → frame_under other kind n s ≡ Ok Close
  unfolding frame_under
  close-under e = by (begins_close kind s) e
    where
      l : ℕ
      l = field_length (after_header kind s)

      by : (v : Bool) → cond v (frame_of (close_tests kind n s) (Ok Close)) (frame_of (unit_tests_under rule kind n s) (Ok (Unit l))) ≡ Ok Close
          → cond v (frame_of (close_tests kind n s) (Ok Close)) (frame_of (unit_tests_under other kind n s) (Ok (Unit l))) ≡ Ok Close
      by true q = q
      by false q =
          let z : Ok (Unit l) ≡ (Ok Close) = (frame_close (unit_tests_under rule kind n s) (Ok (Unit l)) q).1 in let y : ◌≡◌ {A = ℕ} 0 1 = cc in absurd (omega arith)

  -- with its seal
  module _ (key o : List ℕ) where
    abbrev seal : ℕ → Answer
    seal m = unit_seal_tests kind key o n m s

    abbrev closing : Answer
    closing = close_seal_tests kind key o n s

    pub checked_unit : (m : ℕ) → checked_under rule kind key o n s ≡ Ok (Unit m) → checked_under other kind key o n s ≡ or_languages allows m
    unfolding checked_under
    checked_unit m e =
        let both = unit_sealed seal closing (frame_under rule kind n s) m e in
        ap (λ (f : FrameAnswer). with_seal f seal closing) (unit-under m both.0) ∙ of allows both.1
      where
        of : (ok : Bool) → seal m ≡ Ok tt → with_seal (or_languages ok m) seal closing ≡ or_languages ok m
        of true q = ap (λ (a : Answer). frame_of a (Ok (Unit m))) q
        of false q = refl

    pub checked_close : checked_under rule kind key o n s ≡ Ok Close → checked_under other kind key o n s ≡ Ok Close
    unfolding checked_under
    checked_close e =
        let both = close_sealed_lem seal closing (frame_under rule kind n s) e in
        ap (λ (f : FrameAnswer). with_seal f seal closing) (close-under both.0) ∙ ap (λ (a : Answer). frame_of a (Ok Close)) both.1

-- by the frame at the place
pub step_under : (rule : Rule) (kind : Kind) (key o : List ℕ) (left n total : ℕ) (s : List ℕ) (f : FrameAnswer) → checked_under rule kind key o n s ≡ f
    → check_from_under rule kind key o (suc left) n total s
    ≡ by_frame f (λ (m : ℕ). check_from_under rule kind key o left (suc n) (total + unit_calls kind m) (after_unit kind m s))
    (accepted n (total + close_calls kind))
unfolding check_from_under
step_under rule kind key o left n total s f e = λ i.
    by_frame (e i) (λ (m : ℕ). check_from_under rule kind key o left (suc n) (total + unit_calls kind m) (after_unit kind m s))
    (accepted n (total + close_calls kind))

-- the same answer, or 11
abbrev Kept : (A : Type 0) → A → A → A → Type 0
Kept A z a b = (a ≡ b) ⊎ (a ≡ z)

kept_ap : (A B : Type 0) (f : A → B) (z a b : A) → Kept A z a b → Kept B (f z) (f a) (f b)
kept_ap A B f z a b (inl e) = inl (ap f e)
kept_ap A B f z a b (inr e) = inr (ap f e)

module _ (rule wide : Rule) (allows-all : (from to : List ℕ) → rule from to ≡ true → wide from to ≡ true) (kind : Kind) (key o : List ℕ) where
  abbrev eleven : FrameAnswer
  eleven = Err LanguagesNotAllowed

  tests-kept : (n : ℕ) (s : List ℕ) → Kept Answer (Err LanguagesNotAllowed) (unit_tests_under rule kind n s) (unit_tests_under wide kind n s)
  unfolding unit_tests_under
  tests-kept n s =
      by (has_field kind.header_tag (header_bytes kind) s) (ltb n most_units) (eqb (frame_number kind s) n)
      (rule (frame_from kind s) (frame_to kind s)) (wide (frame_from kind s) (frame_to kind s)) (allows-all (frame_from kind s) (frame_to kind s))
    where
      rest : Answer
      rest = unless (has_sealed (after_header kind s)) FieldMalformed (Ok tt)

      by : (a b c v w : Bool) → (v ≡ true → w ≡ true)
          → Kept Answer (Err LanguagesNotAllowed)
          (unless a FieldMalformed (unless b TooManyUnits (unless c NumberOutOfOrder (unless v LanguagesNotAllowed rest))))
          (unless a FieldMalformed (unless b TooManyUnits (unless c NumberOutOfOrder (unless w LanguagesNotAllowed rest))))
      by false b c v w h = inl refl
      by true false c v w h = inl refl
      by true true false v w h = inl refl
      by true true true false w h = inr refl
      by true true true true w h = inl (ap (λ (x : Bool). unless x LanguagesNotAllowed rest) (sym (h refl)))

  frame-kept : (n : ℕ) (s : List ℕ) → Kept FrameAnswer eleven (frame_under rule kind n s) (frame_under wide kind n s)
  unfolding frame_under
  frame-kept n s = by (begins_close kind s)
    where
      l : FrameAnswer
      l = Ok (Unit (field_length (after_header kind s)))

      by : (v : Bool) → Kept FrameAnswer eleven (cond v (frame_of (close_tests kind n s) (Ok Close)) (frame_of (unit_tests_under rule kind n s) l))
          (cond v (frame_of (close_tests kind n s) (Ok Close)) (frame_of (unit_tests_under wide kind n s) l))
      by true = inl refl
      by false = kept_ap Answer FrameAnswer (λ (a : Answer). frame_of a l) (Err LanguagesNotAllowed) _ _ (tests-kept n s)

  from-kept : (left n total : ℕ) (s : List ℕ) → Kept CheckAnswer (Err LanguagesNotAllowed)
      (check_from_under rule kind key o left n total s) (check_from_under wide kind key o left n total s)
  unfolding check_from_under checked_under
  from-kept zero n total s = inl refl
  from-kept (suc left) n total s = by (λ m. from-kept left (suc n) (total + unit_calls kind m) (after_unit kind m s)) (frame-kept n s)
    where
      sealed : FrameAnswer → FrameAnswer
      sealed f = with_seal f (λ (m : ℕ). unit_seal_tests kind key o n m s) (close_seal_tests kind key o n s)

      goes : Rule → ℕ → CheckAnswer
      goes r m = check_from_under r kind key o left (suc n) (total + unit_calls kind m) (after_unit kind m s)

      done : CheckAnswer
      done = accepted n (total + close_calls kind)

      Rest : Type 0
      Rest = (m : ℕ) → Kept CheckAnswer (Err LanguagesNotAllowed) (goes rule m) (goes wide m)

      on : Rest → (f : FrameAnswer) → Kept CheckAnswer (Err LanguagesNotAllowed) (by_frame f (goes rule) done) (by_frame f (goes wide) done)
      on rest (Ok (Unit m)) = rest m
      on rest (Ok Close) = inl refl
      on rest (Err why) = inl refl

      by : Rest → Kept FrameAnswer eleven (frame_under rule kind n s) (frame_under wide kind n s)
          → Kept CheckAnswer (Err LanguagesNotAllowed) (by_frame (sealed (frame_under rule kind n s)) (goes rule) done)
          (by_frame (sealed (frame_under wide kind n s)) (goes wide) done)
      by rest (inl e) =
          subst (λ (f : FrameAnswer). Kept CheckAnswer (Err LanguagesNotAllowed) (by_frame (sealed (frame_under rule kind n s)) (goes rule) done)
          (by_frame (sealed f) (goes wide) done)) e (on rest (sealed (frame_under rule kind n s)))
      by rest (inr e) = inr (ap (λ (f : FrameAnswer). by_frame (sealed f) (goes rule) done) e)

pub check_kept : (rule wide : Rule) → ((from to : List ℕ) → rule from to ≡ true → wide from to ≡ true)
    → (key s : List ℕ) → (check_told (check_under rule key s) ≡ check_told (check_under wide key s)) ⊎ (check_told (check_under rule key s) ≡ refuses 11)
unfolding check_under
check_kept rule wide less key s = by (check_tests (length key) s)
  where
    runs : Rule → CheckAnswer
    runs r = check_from_under r (kind_of (book_kind s)) key (opening_bytes s) (suc most_units) 0 0 (after_opening s)

    by : (a : Answer) → Kept Told (refuses 11) (check_told (after_tests a (runs rule))) (check_told (after_tests a (runs wide)))
    by (Ok tt) = kept_ap CheckAnswer Told check_told (Err LanguagesNotAllowed) (runs rule) (runs wide)
        (from-kept rule wide less (kind_of (book_kind s)) key (opening_bytes s) (suc most_units) 0 0 (after_opening s))
    by (Err why) = inl refl

pub wide_check : (rule wide : Rule) → ((from to : List ℕ) → rule from to ≡ true → wide from to ≡ true) → (key s : List ℕ) (n t : ℕ)
    → check_told (check_under rule key s) ≡ gives (n ∷ t ∷ []) → check_told (check_under wide key s) ≡ gives (n ∷ t ∷ [])
wide_check rule wide less key s n t e = by (check_kept rule wide less key s)
  where
    by : Kept Told (refuses 11) (check_told (check_under rule key s)) (check_told (check_under wide key s)) → check_told (check_under wide key s) ≡ gives (n ∷ t ∷ [])
    by (inl q) = sym q ∙ e
    by (inr q) = let z : ◌≡◌ {A = ℕ} 11 0 = ap (λ (r : Told). r.number) (sym q ∙ e) in absurd (omega arith)
