-- Rules for a unit's languages, compared: "Every book accepted before is accepted still." Check over a rule is the definition of check with a
-- rule where `unit_tests` has `pair_allowed`; over `pair_allowed` it is `check_answer` (clause `now`). proofs/Rules proves all clauses.
use Rattle.suites.specs.Answer.{Answer}
use Rattle.parser.specs.FrameAnswer.{FrameAnswer}
use Rattle.parser.specs.declared.frame.Frame.TheVariants.{Close, Unit}
use Rattle.std.specs.Prelude.{◌≡◌, Bool, true, not, ◌&&◌, cond, ◌↔◌, ◌⊎◌, ◌≢◌, List, [], ◌∷◌, ◌++◌, ℕ, zero, suc, ◌+◌, eqb, ltb, length, Ok, Err}
use Rattle.bits.specs.Bytes.{same_bytes}
use Rattle.suites.specs.declared.refusal.Refusal.TheVariants.{LanguagesNotAllowed, TooManyUnits, FieldMalformed, NumberOutOfOrder}
use Rattle.suites.specs.Told.{gives, refuses}
use Rattle.limits.specs.Tests.{unless}
use Rattle.fields.specs.Field.{field_length, has_field}
use Rattle.fields.specs.Kind.{Kind}
use Rattle.fields.specs.Languages.{letters, pair_allowed}
use Rattle.fields.specs.Unit.{BookUnit, Given, Allowed, in_range}
use Rattle.kinds.specs.declared.Kind.{Kind as BookKind}
use Rattle.kinds.specs.Kind.{kind_of, book_kind}
use Rattle.kinds.specs.Lengths.{header_bytes, unit_calls, close_calls}
use Rattle.parser.specs.Frame.{
  most_units,
  frame_number,
  frame_from,
  frame_to,
  after_header,
  has_sealed,
  after_unit,
  close_tests,
  frame_of,
  begins_close,
}
use Rattle.opening_fields.specs.Opening.{opening_bytes, after_opening, check_tests}
use Rattle.seals.specs.Seal.{unit_seal_tests, close_seal_tests}
use Rattle.checker.specs.Check.{check_told, with_seal, by_frame, after_tests, check_answer, CheckAnswer, accepted}
use Rattle.book.specs.Demand3.{History, after, units_added, LeavesBook}

-- a rule: whether a unit may have these codes of source and target language
abbrev pub Rule : Type 0
Rule = List ℕ → List ℕ → Bool

-- the earlier rule, which nothing goes by any more: "Languages are letters a to z, and the two codes differ."
unfoldable pub pair_allowed_before : Rule
pair_allowed_before from to = letters from && (letters to && not (same_bytes (length from) from to))

-- check over a rule, a definition for each of check's that the rule goes through

-- `unit_tests`: "each unit: 14 of its header, 13, 15, 11, 14 of the rest", with 11 by the rule
unfoldable pub unit_tests_under : Rule → Kind → ℕ → List ℕ → Answer
unit_tests_under rule kind n s =
    unless (has_field kind.header_tag (header_bytes kind) s) FieldMalformed
    (unless (ltb n most_units) TooManyUnits
    (unless (eqb (frame_number kind s) n) NumberOutOfOrder
    (unless (rule (frame_from kind s) (frame_to kind s)) LanguagesNotAllowed
    (unless (has_sealed (after_header kind s)) FieldMalformed
    (Ok tt)))))

-- `frame_at`
unfoldable pub frame_under : Rule → Kind → ℕ → List ℕ → FrameAnswer
frame_under rule kind n s =
    cond (begins_close kind s)
    (frame_of (close_tests kind n s) (Ok Close))
    (frame_of (unit_tests_under rule kind n s) (Ok (Unit (field_length (after_header kind s)))))

-- `checked_at`
unfoldable pub checked_under : Rule → Kind → List ℕ → List ℕ → ℕ → List ℕ → FrameAnswer
checked_under rule kind key o n s =
    with_seal (frame_under rule kind n s) (λ (m : ℕ). unit_seal_tests kind key o n m s) (close_seal_tests kind key o n s)

-- `check_from`
unfoldable pub check_from_under : Rule → Kind → List ℕ → List ℕ → ℕ → ℕ → ℕ → List ℕ → CheckAnswer
check_from_under rule kind key o zero n total s = Err TooManyUnits
check_from_under rule kind key o (suc left) n total s =
    by_frame (checked_under rule kind key o n s)
    (λ (m : ℕ). check_from_under rule kind key o left (suc n) (total + unit_calls kind m) (after_unit kind m s))
    (accepted n (total + close_calls kind))

-- `check_answer`
unfoldable pub check_under : Rule → List ℕ → List ℕ → CheckAnswer
check_under rule key s =
    after_tests (check_tests (length key) s)
    (check_from_under rule (kind_of (book_kind s)) key (opening_bytes s) (suc most_units) 0 0 (after_opening s))

-- every unit of a list may have its languages, by a rule
unfoldable pub all_under : Rule → List BookUnit → Bool
all_under rule [] = true
all_under rule (u ∷ us) = rule u.from u.to && all_under rule us

pub record RuleLaw : Type 0 where
  -- over the rule that holds now, check over a rule is check
  pub now : (key s : List ℕ) → check_under pair_allowed key s ≡ check_answer key s
  -- of two rules of which the second allows all that the first does: whatever check over the first answers, check over the second answers too,
  -- unless it is 11
  pub kept : (rule wide : Rule) → ((from to : List ℕ) → rule from to ≡ true → wide from to ≡ true)
      → (key s : List ℕ) → (check_told (check_under rule key s) ≡ check_told (check_under wide key s)) ⊎ (check_told (check_under rule key s) ≡ refuses 11)
  -- so where check over the first accepts, check over the second does, with the same numbers
  pub wider : (rule wide : Rule) → ((from to : List ℕ) → rule from to ≡ true → wide from to ≡ true)
      → (key s : List ℕ) (n t : ℕ) → check_told (check_under rule key s) ≡ gives (n ∷ t ∷ []) → check_told (check_under wide key s) ≡ gives (n ∷ t ∷ [])
  -- the earlier rule, of two codes of one length: all are letters, and the two differ
  pub before : (from to : List ℕ) → length from ≡ length to
      → (pair_allowed_before from to ≡ true) ↔ ((letters from ≡ true) × (letters to ≡ true) × (from ≢ to))
  -- "Every book accepted before is accepted still."
  pub still : (key s : List ℕ) (n t : ℕ) → check_told (check_under pair_allowed_before key s) ≡ gives (n ∷ t ∷ [])
      → check_told (check_answer key s) ≡ gives (n ∷ t ∷ [])
  -- of what a list with an accepted close leaves, of any kind: check over a rule accepts it with the writer's count and call total where the rule
  -- allows the languages of all its units, and else refuses it with 11
  pub under : (rule : Rule) (key x : List ℕ) (k : BookKind) (h : History (kind_of k)) → LeavesBook h key x
      → check_told (check_under rule key x)
      ≡ cond (all_under rule (units_added h)) (gives ((after h).writer.count ∷ (after h).writer.total ∷ [])) (refuses 11)
  -- "Books with a pair like en, en, under either header tag, join those that checking accepts": a unit with the same code of letters twice is one
  -- that a book of any kind may have, so that it can be written (`written` of demand 3)
  pub allowed : (k : BookKind) (n : ℕ) (u : BookUnit) → Given (kind_of k) u → in_range (length u.source) (length u.target) ≡ true
      → letters u.from ≡ true → u.from ≡ u.to → Allowed (kind_of k) n u
  -- and a book with such a unit, which was refused with 11, is accepted
  pub joined : (key x : List ℕ) (k : BookKind) (h : History (kind_of k)) → LeavesBook h key x
      → (us : List BookUnit) (u : BookUnit) (vs : List BookUnit) → units_added h ≡ us ++ u ∷ vs → u.from ≡ u.to
      → (check_told (check_under pair_allowed_before key x) ≡ refuses 11)
      × (check_told (check_answer key x) ≡ gives ((after h).writer.count ∷ (after h).writer.total ∷ []))
