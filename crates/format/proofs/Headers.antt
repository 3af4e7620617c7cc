-- Laws of the headers of kinds and of a book's opening fields.
use mathlib.Core.Path.{◌≡◌, refl, sym, ◌∙◌}
use mathlib.Core.List.{List, [], ◌∷◌, ◌++◌, append_assoc, head-eq_of_cons-eq, tail-eq_of_cons-eq}
use Prim.Native.Nat.{ℕ, ◌+◌, ◌^◌, ◌<◌}
use lib.ListN.{length, length-append}
use Rattle.bits.specs.Bytes.{big_endian}
use Rattle.bits.proofs.BigEndian.{length_big_endian, big_endian_inj}
use Rattle.suites.specs.declared.suite.Suite.{Suite}
use Rattle.fields.specs.Field.{field_head, field}
use Rattle.fields.specs.Kind.{Kind, WellFormed}
use Rattle.format.specs.Sealings.{opening_fields, unit_header, close_header}
use Rattle.fields.proofs.Fields.{append_inj, field_same}

-- headers that begin one string
module _ (kind : Kind) (n₁ n₂ : ℕ) where
  -- of units: the bytes of their numbers, and what they say besides
  pub unit_header_parts : (d₁ d₂ : List ℕ) {r₁ r₂ : List ℕ} → length d₁ ≡ length d₂ → unit_header kind n₁ d₁ ++ r₁ ≡ unit_header kind n₂ d₂ ++ r₂
      → (big_endian kind.number_bytes n₁ ≡ big_endian kind.number_bytes n₂) × (d₁ ≡ d₂) × (r₁ ≡ r₂)
  unfolding unit_header
  unit_header_parts d₁ d₂ {r₁} {r₂} l e =
      let b₁ = big_endian kind.number_bytes n₁ in
      let b₂ = big_endian kind.number_bytes n₂ in
      let same : length b₁ ≡ length b₂ = length_big_endian kind.number_bytes n₁ ∙ sym (length_big_endian kind.number_bytes n₂) in
      let long : length (b₁ ++ d₁) ≡ length (b₂ ++ d₂) = length-append b₁ d₁ ∙ (λ i. same i + l i) ∙ sym (length-append b₂ d₂) in
      let f = field_same kind.header_tag kind.header_tag (b₁ ++ d₁) (b₂ ++ d₂) {r₁ = r₁} {r₂ = r₂} long e in
      let both : (b₁ ≡ b₂) × (d₁ ≡ d₂) = append_inj b₁ b₂ same f.1 in
      (both.0, both.1, f.2)

  -- of a unit and of a close
  pub unit_header_no_close : WellFormed kind → (d r₁ r₂ : List ℕ) → unit_header kind n₁ d ++ r₁ ≡ close_header kind n₂ ++ r₂ → ⊥
  unfolding unit_header close_header field field_head
  unit_header_no_close wf d r₁ r₂ e = wf.tags_differ (head-eq_of_cons-eq e)

-- the opening fields say suite and number
pub opening_fields_inj : (s₁ s₂ : Suite) (n₁ n₂ : ℕ) {r₁ r₂ : List ℕ} → n₁ < 2 ^ 64 → n₂ < 2 ^ 64
    → opening_fields s₁ n₁ ++ r₁ ≡ opening_fields s₂ n₂ ++ r₂ → (s₁ ≡ s₂) × (n₁ ≡ n₂) × (r₁ ≡ r₂)
unfolding opening_fields
opening_fields_inj s₁ s₂ n₁ n₂ {r₁} {r₂} h₁ h₂ e =
    let c₁ = s₁.cipher ∷ s₁.steps ∷ [] in
    let c₂ = s₂.cipher ∷ s₂.steps ∷ [] in
    let number = field_same 0x01 0x01 (big_endian 8 n₁) (big_endian 8 n₂) {r₁ = field 0x02 c₁ ++ r₁} {r₂ = field 0x02 c₂ ++ r₂}
    (length_big_endian 8 n₁ ∙ sym (length_big_endian 8 n₂))
    (sym (append_assoc (field 0x01 (big_endian 8 n₁)) (field 0x02 c₁) r₁) ∙ e ∙ append_assoc (field 0x01 (big_endian 8 n₂)) (field 0x02 c₂) r₂) in
    let suite = field_same 0x02 0x02 c₁ c₂ {r₁ = r₁} {r₂ = r₂} refl number.2 in
    let cipher : s₁.cipher ≡ s₂.cipher = head-eq_of_cons-eq suite.1 in
    let steps : s₁.steps ≡ s₂.steps = head-eq_of_cons-eq (tail-eq_of_cons-eq suite.1) in
    (λ i. record { cipher = cipher i; steps = steps i }, big_endian_inj 8 h₁ h₂ number.1, suite.2)
