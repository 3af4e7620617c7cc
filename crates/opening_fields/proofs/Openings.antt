-- The opening fields: those that are written are read back, and those that are read were written.
use Rattle.std.specs.Prelude.{Ok}
use mathlib.Core.Path.{◌≡◌, refl, sym, ap, ◌∙◌}
use mathlib.Core.Bool.{true, and-eq-true_iff}
use mathlib.Core.List.{List, [], ◌∷◌, ◌++◌, append_assoc, append-nil}
use Prim.Native.Nat.{ℕ, zero, suc, ◌+◌, ◌^◌, ◌≤◌, ◌<◌}
use native.Mathlib.Nat.{zero-add, suc-add}
use native.Mathlib.Omega.{arith}
use lib.ListN.{length, take, drop, take-append-drop}
use lib.Seq.{length-take-le, take-nil, take-take, drop-drop, get_or-take}
use Rattle.bits.specs.Bytes.{Bytes, big_endian, number_of}
use Rattle.bits.proofs.BigEndian.{length_big_endian, number_of_lt, big_endian_number_of, number_of_big_endian}
use Rattle.bits.proofs.Lists.{part_at}
use Rattle.suites.specs.declared.refusal.Refusal.TheVariants.{SuiteNotListed, FieldMalformed}
use Rattle.suites.specs.declared.suite.Suite.{Suite}
use Rattle.suites.specs.Suite.{listed}
use Rattle.limits.proofs.Passed.{unless_passed, unless_passes}
use Rattle.fields.specs.Field.{field_head, field, has_field, field_value, after_field}
use Rattle.format.specs.Sealings.{opening_fields}
use Rattle.fields.proofs.Fields.{field_told, value_long, field_held}
use Rattle.opening_fields.specs.Opening.{has_opening, opening_number, opening_suite, opening_bytes, after_opening, opening_tests}
use Rattle.fields.proofs.Values.{bytes_value, bytes_after, after_at, field_at, length_after}

module _ (suite : Suite) (number : ℕ) (rest : List ℕ) where
  suite-here : opening_suite (opening_fields suite number ++ rest) ≡ suite
  unfolding opening_suite opening_fields field field_head big_endian
  suite-here = refl

  number-here : number < 2 ^ 64 → opening_number (opening_fields suite number ++ rest) ≡ number
  unfolding opening_number opening_fields field field_head big_endian field_value
  number-here h = number_of_big_endian 8 number h

  after-opening : after_opening (opening_fields suite number ++ rest) ≡ rest
  unfolding after_opening opening_fields field field_head big_endian
  after-opening = refl

  has_here : has_opening (opening_fields suite number ++ rest) ≡ true
  unfolding has_opening opening_fields
  has_here =
      let b = big_endian 8 number in
      let c = suite.cipher ∷ suite.steps ∷ [] in
      let long : length b ≡ 8 = length_big_endian 8 number in
      let r = field 0x02 c ++ rest in
      rw append_assoc
      ((and-eq-true_iff (has_field 0x01 8 (field 0x01 b ++ r)) (has_field 0x02 2 (after_field 8 (field 0x01 b ++ r)))).1 (
        field_at 0x01 8 b r long (omega arith),
        rw (after_at 0x01 8 b r long) (field_at 0x02 2 c rest refl (omega arith)),
      ))

  pub opening_here : number < 2 ^ 64 → listed suite.cipher suite.steps ≡ true
      → (opening_tests (opening_fields suite number ++ rest) ≡ Ok tt)
      × (opening_suite (opening_fields suite number ++ rest) ≡ suite)
      × (opening_number (opening_fields suite number ++ rest) ≡ number)
      × (after_opening (opening_fields suite number ++ rest) ≡ rest)
  unfolding opening_tests
  opening_here h l =
      let s = opening_fields suite number ++ rest in (
        unless_passes (has_opening s) _ _ has_here
            (unless_passes (listed (opening_suite s).cipher (opening_suite s).steps) _ _
            (ap (λ (u : Suite). listed u.cipher u.steps) suite-here ∙ l) refl),
        suite-here,
        number-here h,
        after-opening,
      )

module _ (s : List ℕ) (bytes : Bytes s) (one : has_field 0x01 8 s ≡ true) (two : has_field 0x02 2 (after_field 8 s) ≡ true) where
  number-long : length (field_value 8 s) ≡ 8
  number-long = value_long 0x01 8 s one

  number_fits : opening_number s < 2 ^ 64
  unfolding opening_number
  number_fits = rw number-long at (number_of_lt (field_value 8 s) (bytes_value 8 s bytes))

  number-held : field_value 8 s ≡ big_endian 8 (opening_number s)
  unfolding opening_number
  number-held = sym (big_endian_number_of (field_value 8 s) (bytes_value 8 s bytes)) ∙ ap (λ (k : ℕ). big_endian k (number_of (field_value 8 s))) number-long

  suite-held : field_value 2 (after_field 8 s) ≡ (opening_suite s).cipher ∷ (opening_suite s).steps ∷ []
  unfolding field_value after_field opening_suite
  suite-held =
      ap (take 2) (drop-drop 3 11 s)
      ∙ sym (part_at 2 s 14 (omega (arith, length_after 0x01 8 s one, field_told 0x02 2 (after_field 8 s) two)))

  after-held : after_field 2 (after_field 8 s) ≡ after_opening s
  unfolding after_field after_opening
  after-held = drop-drop 5 11 s

  opening-held : s ≡ opening_fields (opening_suite s) (opening_number s) ++ after_opening s
  unfolding opening_fields
  opening-held =
      let c = (opening_suite s).cipher ∷ (opening_suite s).steps ∷ [] in
      field_held 0x01 8 s one bytes
      ∙ (λ i. field 0x01 (number-held i) ++ field_held 0x02 2 (after_field 8 s) two (bytes_after 8 s bytes) i)
      ∙ (λ i. field 0x01 (big_endian 8 (opening_number s)) ++ (field 0x02 (suite-held i) ++ after-held i))
      ∙ sym (append_assoc (field 0x01 (big_endian 8 (opening_number s))) (field 0x02 c) (after_opening s))

opening_told : (s : List ℕ) → Bytes s → opening_tests s ≡ Ok tt
    → (listed (opening_suite s).cipher (opening_suite s).steps ≡ true) × (opening_number s < 2 ^ 64)
    × (s ≡ opening_fields (opening_suite s) (opening_number s) ++ after_opening s)
unfolding opening_tests has_opening
opening_told s bytes e =
    let has = unless_passed (has_opening s) _ _ e in
    let suite = unless_passed (listed (opening_suite s).cipher (opening_suite s).steps) _ _ has.1 in
    let both = (and-eq-true_iff (has_field 0x01 8 s) (has_field 0x02 2 (after_field 8 s))).0 has.0 in
    (suite.0, number_fits s bytes both.0 both.1, opening-held s bytes both.0 both.1)

-- opening fields that pass their tests
pub opening_passed : (s : List ℕ) → opening_tests s ≡ Ok tt → (listed (opening_suite s).cipher (opening_suite s).steps ≡ true) × (16 ≤ length s)
unfolding opening_tests has_opening
opening_passed s e =
    let has = unless_passed (has_opening s) FieldMalformed _ e in
    let suite = unless_passed (listed (opening_suite s).cipher (opening_suite s).steps) SuiteNotListed (Ok tt) has.1 in
    let both = (and-eq-true_iff (has_field 0x01 8 s) (has_field 0x02 2 (after_field 8 s))).0 has.0 in
    (suite.0, omega (arith, length_after 0x01 8 s both.0, field_told 0x02 2 (after_field 8 s) both.1))

-- the bytes of opening fields that are written
module _ (suite : Suite) (number : ℕ) (rest : List ℕ) where
  pub front_here : opening_bytes (opening_fields suite number ++ rest) ≡ opening_fields suite number
  unfolding opening_bytes opening_fields field field_head big_endian
  front_here = refl

  front-first : {s : List ℕ} → s ≡ opening_fields suite number ++ rest → opening_bytes s ≡ opening_fields suite number
  front-first e = ap opening_bytes e ∙ front_here

pub front_says : (suite : Suite) (number : ℕ) → number < 2 ^ 64
    → (opening_suite (opening_fields suite number) ≡ suite) × (opening_number (opening_fields suite number) ≡ number)
front_says suite number h =
    let all = append-nil (opening_fields suite number) in (
      ap opening_suite (sym all) ∙ suite-here suite number [],
      ap opening_number (sym all) ∙ number-here suite number [] h,
    )

-- the first of the elements behind k
pub drop_take : (k n : ℕ) (s : List ℕ) → drop k (take (k + n) s) ≡ take n (drop k s)
drop_take zero n s = ap (λ (m : ℕ). take m s) (zero-add n)
drop_take (suc k) n [] = ap (drop (suc k)) (take-nil (suc k + n)) ∙ sym (take-nil n)
drop_take (suc k) n (a ∷ s) = ap (λ (m : ℕ). drop (suc k) (take m (a ∷ s))) (suc-add k n) ∙ drop_take k n s

-- the bytes of the opening fields say what the book says
module _ (s : List ℕ) where
  pub front_suite : opening_suite (opening_bytes s) ≡ opening_suite s
  unfolding opening_suite opening_bytes
  front_suite = λ i. record { cipher = get_or-take 16 s 14 0 (omega arith) i; steps = get_or-take 16 s 15 0 (omega arith) i }

  pub front_number : opening_number (opening_bytes s) ≡ opening_number s
  unfolding opening_number opening_bytes field_value
  front_number = ap (λ (l : List ℕ). number_of (take 8 l)) (drop_take 3 13 s) ∙ ap number_of (take-take 8 13 (drop 3 s) (omega arith))

  pub front_rest : opening_bytes s ++ after_opening s ≡ s
  unfolding opening_bytes after_opening
  front_rest = take-append-drop 16 s

  -- where they pass their tests
  module _ (done : opening_tests s ≡ Ok tt) where
    pub front_long : length (opening_bytes s) ≡ 16
    unfolding opening_bytes
    front_long = length-take-le 16 s (opening_passed s done).1

    pub front_listed : listed (opening_suite (opening_bytes s)).cipher (opening_suite (opening_bytes s)).steps ≡ true
    front_listed = rw front_suite (opening_passed s done).0

    -- they are those that a writer makes
    pub front_held : Bytes s
        → (opening_number (opening_bytes s) < 2 ^ 64)
        × (opening_bytes s ≡ opening_fields (opening_suite (opening_bytes s)) (opening_number (opening_bytes s)))
    front_held bytes =
        let o = opening_told s bytes done in (
          rw front_number o.1,
          front-first (opening_suite s) (opening_number s) (after_opening s) o.2 ∙ (λ i. opening_fields (sym front_suite i) (sym front_number i)),
        )
