-- Laws of fields: one that is written is read back, and one that is read was written.
use mathlib.Core.Path.{◌≡◌, refl, sym, ap, ◌∙◌}
use mathlib.Core.Bool.{true, ◌&&◌, and-eq-true_iff}
use mathlib.Core.List.{List, ◌∷◌, ◌++◌, append_assoc, head-eq_of_cons-eq}
use Prim.Native.Nat.{ℕ, ◌+◌, ◌≤◌, ◌<◌}
use native.Mathlib.Omega.{arith}
use borrow.Author.Tests.{leb-true, eqb-true, le-leb, eq-eqb}
use lib.Dec.{eqb, leb}
use lib.ListN.{length, get_or, take, drop, length-append, length-drop, take-append-drop}
use lib.Seq.{take_at, drop_at, drop-cons, drop-drop, length-take-le}
use Rattle.bits.specs.Bytes.{Bytes, big_endian}
use Rattle.bits.proofs.BigEndian.{big_endian_number_of, number_of_big_endian}
use Rattle.bits.proofs.Bytes.{bytes_take, bytes_drop}
use Rattle.fields.specs.Field.{field_head, field, field_length, has_field, field_value, after_field}

-- strings that start with strings of one length
pub append_inj : (p₁ p₂ : List ℕ) {q₁ q₂ : List ℕ} → length p₁ ≡ length p₂ → p₁ ++ q₁ ≡ p₂ ++ q₂ → (p₁ ≡ p₂) × (q₁ ≡ q₂)
append_inj p₁ p₂ {q₁} {q₂} l e = (
  sym (take_at p₁ q₁ (length p₂) l) ∙ ap (take (length p₂)) e ∙ take_at p₂ q₂ (length p₂) refl,
  sym (drop_at p₁ q₁ (length p₂) l) ∙ ap (drop (length p₂)) e ∙ drop_at p₂ q₂ (length p₂) refl,
)

-- lengths

pub length_field_head : (tag n : ℕ) → length (field_head tag n) ≡ 3
unfolding field_head big_endian
length_field_head tag n = refl

pub length_field : (tag : ℕ) (v : List ℕ) → length (field tag v) ≡ 3 + length v
unfolding field
length_field tag v = length-append (field_head tag (length v)) v ∙ ap (λ (n : ℕ). n + length v) (length_field_head tag (length v))

-- a field that is written is read back

module _ (tag : ℕ) (v rest : List ℕ) where
  pub value_here : field_value (length v) (field tag v ++ rest) ≡ v
  unfolding field field_head big_endian field_value
  value_here = take_at v rest (length v) refl

  pub after_here : after_field (length v) (field tag v ++ rest) ≡ rest
  unfolding after_field
  after_here = drop_at (field tag v) rest (3 + length v) (length_field tag v)

  pub length_here : length v < 65536 → field_length (field tag v ++ rest) ≡ length v
  unfolding field field_head big_endian field_length
  length_here h = number_of_big_endian 2 (length v) h

  pub field_here : length v < 65536 → has_field tag (length v) (field tag v ++ rest) ≡ true
  unfolding has_field field field_head
  field_here h =
      let s = field tag v ++ rest in
      let room : 3 + length v ≤ length s = omega (arith, length-append (field tag v) rest, length_field tag v) in
      (and-eq-true_iff (leb (3 + length v) (length s)) (eqb tag tag && eqb (field_length s) (length v))).1 (
        le-leb (3 + length v) (length s) room,
        (and-eq-true_iff (eqb tag tag) (eqb (field_length s) (length v))).1 (eq-eqb tag tag refl, eq-eqb (field_length s) (length v) (length_here h)),
      )

-- what is read as a field was written as one
module _ (tag n : ℕ) (s : List ℕ) (has : has_field tag n s ≡ true) where
  pub field_told : (3 + n ≤ length s) × (get_or s 0 0 ≡ tag) × (field_length s ≡ n)
  unfolding has_field
  field_told =
      let both = (and-eq-true_iff (leb (3 + n) (length s)) (eqb (get_or s 0 0) tag && eqb (field_length s) n)).0 has in
      let more = (and-eq-true_iff (eqb (get_or s 0 0) tag) (eqb (field_length s) n)).0 both.1 in
      (leb-true (3 + n) (length s) both.0, eqb-true (get_or s 0 0) tag more.0, eqb-true (field_length s) n more.1)

  pub value_long : length (field_value n s) ≡ n
  unfolding field_value
  value_long = length-take-le n (drop 3 s) (rw length-drop (omega (arith, field_told.0)))

  pub field_held : Bytes s → s ≡ field tag (field_value n s) ++ after_field n s
  unfolding field field_head field_length field_value after_field
  field_held b =
      let v = take n (drop 3 s) in
      let two : length (take 2 (drop 1 s)) ≡ 2 = length-take-le 2 (drop 1 s) (rw length-drop (omega (arith, field_told.0))) in
      let long : take 2 (drop 1 s) ≡ big_endian 2 (length v) =
      sym (big_endian_number_of (take 2 (drop 1 s)) (bytes_take 2 (drop 1 s) (bytes_drop 1 s b)))
      ∙ (λ i. big_endian (two i) ((field_told.2 ∙ sym value_long) i)) in
      let rest : drop 3 s ≡ v ++ drop (3 + n) s = sym (take-append-drop n (drop 3 s)) ∙ ap (λ (r : List ℕ). v ++ r) (drop-drop n 3 s) in
      drop-cons s 0 0 (omega (arith, field_told.0))
      ∙ ap (λ (r : List ℕ). get_or s 0 0 ∷ r) (sym (take-append-drop 2 (drop 1 s)) ∙ ap (λ (r : List ℕ). take 2 (drop 1 s) ++ r) (drop-drop 2 1 s))
      ∙ (λ i. field_told.1 i ∷ (long i ++ rest i))
      ∙ ap (λ (r : List ℕ). tag ∷ r) (sym (append_assoc (big_endian 2 (length v)) v (drop (3 + n) s)))

-- fields that begin one string are the same field: where their values have one length, and where two bytes hold the length of each
module _ (t₁ t₂ : ℕ) (v₁ v₂ : List ℕ) {r₁ r₂ : List ℕ} where
  pub field_same : length v₁ ≡ length v₂ → field t₁ v₁ ++ r₁ ≡ field t₂ v₂ ++ r₂ → (t₁ ≡ t₂) × (v₁ ≡ v₂) × (r₁ ≡ r₂)
  unfolding field field_head big_endian
  field_same l e =
      let both : (v₁ ≡ v₂) × (r₁ ≡ r₂) = append_inj v₁ v₂ l (ap (drop 3) e) in
      (head-eq_of_cons-eq e, both.0, both.1)

  pub field_inj : length v₁ < 65536 → length v₂ < 65536 → field t₁ v₁ ++ r₁ ≡ field t₂ v₂ ++ r₂ → (t₁ ≡ t₂) × (v₁ ≡ v₂) × (r₁ ≡ r₂)
  field_inj h₁ h₂ e = field_same (sym (length_here t₁ v₁ r₁ h₁) ∙ ap field_length e ∙ length_here t₂ v₂ r₂ h₂) e
