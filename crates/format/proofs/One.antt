-- One string is the book of at most one suite, number and list of units; so is one that lacks the close.
use mathlib.Core.Path.{◌≡◌, refl, sym, ap, ◌∙◌}
use mathlib.Core.Bool.{Bool, true, false, cond}
use mathlib.Core.List.{List, [], ◌∷◌, ◌++◌, append_assoc, append-nil, cons≢nil}
use Prim.Native.Nat.{ℕ, suc, ◌+◌, ◌≤◌, ◌<◌}
use native.Mathlib.Omega.{arith}
use lib.ListN.{length, take, drop, length-drop, take-append-drop}
use lib.Seq.{length-take-le}
use Rattle.bits.specs.Bytes.{Bytes, big_endian}
use Rattle.bits.proofs.BigEndian.{bytes_big_endian}
use Rattle.bits.proofs.Bytes.{bytes_append}
use Rattle.suites.specs.declared.suite.Suite.{Suite}
use Rattle.sealing.specs.Seal.{sealed}
use Rattle.sealing.proofs.One.{sealed_one}
use Rattle.fields.specs.Each.{EachFrom, none_from, more_from}
use Rattle.fields.specs.Field.{field_head, field}
use Rattle.fields.specs.Kind.{Kind, WellFormed}
use Rattle.format.specs.Layout.{sealed_fields, unit_bytes, close_bytes, units_bytes, book_bytes, Bookable}
use Rattle.format.specs.Sealings.{Sealing, opening_fields, unit_header, close_header, nonce_of, unit_sealing, close_sealing, sealed_bytes}
use Rattle.fields.specs.Unit.{BookUnit, Allowed, details_of, unit_text}
use Rattle.fields.proofs.Fields.{field_same, field_inj}
use Rattle.format.proofs.Headers.{unit_header_parts, unit_header_no_close, opening_fields_inj}
use Rattle.fields.proofs.Details.{length_details_of, unit_same}
use Rattle.format.proofs.Lengths.{length_nonce_of, length_unit_sealed, length_close_bytes}
use Rattle.fields.proofs.Texts.{range_told, length_unit_text, bytes_unit_text, unit_text_inj}

pub bytes_nonce_of : (number n : ℕ) → Bytes (nonce_of number n)
unfolding nonce_of
bytes_nonce_of number n = bytes_append (big_endian 8 number) (big_endian 4 n) (bytes_big_endian 8 number) (bytes_big_endian 4 n)

-- fields 11 and 12 that begin one string hold the same sealed bytes
pub sealed_fields_inj : (m₁ m₂ : ℕ) (s₁ s₂ : List ℕ) {r₁ r₂ : List ℕ} → length s₁ ≡ m₁ + 16 → length s₂ ≡ m₂ + 16 → m₁ < 65536 → m₂ < 65536
    → sealed_fields m₁ s₁ ++ r₁ ≡ sealed_fields m₂ s₂ ++ r₂ → (s₁ ≡ s₂) × (r₁ ≡ r₂)
unfolding sealed_fields
sealed_fields_inj m₁ m₂ s₁ s₂ {r₁} {r₂} l₁ l₂ h₁ h₂ e =
    let c₁ : length (take m₁ s₁) ≡ m₁ = length-take-le m₁ s₁ (omega arith) in
    let c₂ : length (take m₂ s₂) ≡ m₂ = length-take-le m₂ s₂ (omega arith) in
    let f = field_inj 0x11 0x11 (take m₁ s₁) (take m₂ s₂) {r₁ = field 0x12 (drop m₁ s₁) ++ r₁} {r₂ = field 0x12 (drop m₂ s₂) ++ r₂}
    (omega arith) (omega arith)
    (sym (append_assoc (field 0x11 (take m₁ s₁)) (field 0x12 (drop m₁ s₁)) r₁) ∙ e ∙ append_assoc (field 0x11 (take m₂ s₂)) (field 0x12 (drop m₂ s₂)) r₂) in
    let g = field_same 0x12 0x12 (drop m₁ s₁) (drop m₂ s₂) {r₁ = r₁} {r₂ = r₂} (omega (arith, length-drop m₁ s₁, length-drop m₂ s₂)) f.2 in
    (sym (take-append-drop m₁ s₁) ∙ (λ i. f.1 i ++ g.1 i) ∙ take-append-drop m₂ s₂, g.2)

-- sealed bytes have one text under one nonce and header
pub sealed_bytes_inj : (suite : Suite) (key : List ℕ) → length key ≡ 16 → Bytes key → (s₁ s₂ : Sealing)
    → length s₁.nonce ≤ 15 → Bytes s₁.nonce → Bytes s₁.text → Bytes s₂.text → s₁.nonce ≡ s₂.nonce → s₁.header ≡ s₂.header
    → sealed_bytes suite key s₁ ≡ sealed_bytes suite key s₂ → s₁.text ≡ s₂.text
unfolding sealed_bytes
sealed_bytes_inj suite key long bytes s₁ s₂ short nonce b₁ b₂ hn hh e =
    sealed_one suite key long bytes s₁.nonce s₁.header short nonce s₁.text s₂.text b₁ b₂
    (e ∙ (λ i. sealed suite.cipher suite.steps key (sym hn i) (sym hh i) s₂.text))

-- a unit's bytes never begin as a close's
pub unit_bytes_no_close : (kind : Kind) → WellFormed kind → (suite : Suite) (key : List ℕ) (number n m : ℕ) (u : BookUnit) (r₁ r₂ : List ℕ)
    → unit_bytes kind suite key number n u ++ r₁ ≡ close_bytes kind suite key number m ++ r₂ → ⊥
unfolding unit_bytes close_bytes
unit_bytes_no_close kind wf suite key number n m u r₁ r₂ e =
    let head = unit_header kind n (details_of kind u) in
    let rest = sealed_fields (length (unit_text u.source u.target)) (sealed_bytes suite key (unit_sealing kind suite number n u)) in
    let tag = field 0x12 (sealed_bytes suite key (close_sealing kind suite number m)) in
    unit_header_no_close kind n m wf (details_of kind u) (rest ++ r₁) (tag ++ r₂) (sym (append_assoc head rest r₁) ∙ e ∙ append_assoc (close_header kind m) tag r₂)

-- what stands behind the last of n units: a close, or nothing
module _ (kind : Kind) (suite : Suite) (key : List ℕ) (number : ℕ) where
  abbrev end : Bool → ℕ → List ℕ
  end closed n = cond closed (close_bytes kind suite key number n) []

  -- strings that no unit's bytes begin: these two are such
  abbrev NoUnit : List ℕ → Type 0
  NoUnit s = (n : ℕ) (u : BookUnit) (r : List ℕ) → unit_bytes kind suite key number n u ++ r ≡ s → ⊥

  end-no-unit : WellFormed kind → (closed : Bool) (n : ℕ) → NoUnit (end closed n)
  unfolding unit_bytes unit_header field field_head
  end-no-unit wf true n m u r e = unit_bytes_no_close kind wf suite key number m n u r [] (e ∙ sym (append-nil (close_bytes kind suite key number n)))
  end-no-unit wf false n m u r e = cons≢nil e

  end-one : (c₁ c₂ : Bool) (n₁ n₂ : ℕ) → end c₁ n₁ ≡ end c₂ n₂ → c₁ ≡ c₂
  end-one true true n₁ n₂ e = refl
  end-one false false n₁ n₂ e = refl
  end-one true false n₁ n₂ e = absurd (omega (arith, ap length e, length_close_bytes kind suite key number n₁))
  end-one false true n₁ n₂ e = absurd (omega (arith, ap length e, length_close_bytes kind suite key number n₂))

module _ (kind : Kind) (suite : Suite) (key : List ℕ) (number : ℕ) (long : length key ≡ 16) (bytes : Bytes key) where
  -- units' bytes that begin one string are the same unit's
  pub unit_bytes_inj : (n : ℕ) {u₁ u₂ : BookUnit} {r₁ r₂ : List ℕ} → Allowed kind n u₁ → Allowed kind n u₂
      → unit_bytes kind suite key number n u₁ ++ r₁ ≡ unit_bytes kind suite key number n u₂ ++ r₂ → (u₁ ≡ u₂) × (r₁ ≡ r₂)
  unfolding unit_bytes unit_sealing
  unit_bytes_inj n {u₁} {u₂} {r₁} {r₂} a₁ a₂ e =
      let header = unit_header_parts kind n n (details_of kind u₁) (details_of kind u₂) {r₁ = fields u₁ ++ r₁} {r₂ = fields u₂ ++ r₂}
      (length_details_of kind u₁ a₁.given ∙ sym (length_details_of kind u₂ a₂.given))
      (sym (append_assoc (unit_header kind n (details_of kind u₁)) (fields u₁) r₁) ∙ e ∙ append_assoc (unit_header kind n (details_of kind u₂)) (fields u₂) r₂) in
      let sealed = sealed_fields_inj (length (text u₁)) (length (text u₂)) (sealing u₁) (sealing u₂) {r₁ = r₁} {r₂ = r₂}
      (whole u₁) (whole u₂) (small u₁ a₁).1 (small u₂ a₂).1 header.2 in
      let same = sealed_bytes_inj suite key long bytes (unit_sealing kind suite number n u₁) (unit_sealing kind suite number n u₂)
      (omega (arith, length_nonce_of number n)) (bytes_nonce_of number n) (plain u₁ a₁) (plain u₂ a₂)
      refl (ap (λ (d : List ℕ). opening_fields suite number ++ unit_header kind n d) header.1) sealed.0 in
      let texts = unit_text_inj u₁.source u₂.source u₁.target u₂.target (small u₁ a₁).0 (small u₂ a₂).0 same in
      (unit_same kind a₁.given a₂.given header.1 texts.0 texts.1, sealed.1)
    where
      text : BookUnit → List ℕ
      text u = unit_text u.source u.target

      sealing : BookUnit → List ℕ
      sealing u = sealed_bytes suite key (unit_sealing kind suite number n u)

      fields : BookUnit → List ℕ
      fields u = sealed_fields (length (text u)) (sealing u)

      whole : (u : BookUnit) → length (sealing u) ≡ length (text u) + 16
      whole u = length_unit_sealed kind suite key number n u ∙ omega (arith, length_unit_text u.source u.target)

      small : (u : BookUnit) → Allowed kind n u → (length u.source < 65536) × (length (text u) < 65536)
      small u a = omega (arith, range_told (length u.source) (length u.target) a.range, length_unit_text u.source u.target)

      plain : (u : BookUnit) → Allowed kind n u → Bytes (text u)
      plain u a = bytes_unit_text u.source u.target a.given.source_bytes a.given.target_bytes

  -- before strings that no unit's bytes begin stand the same units, and these strings are the same
  units-one : (n : ℕ) {us₁ us₂ : List BookUnit} {r₁ r₂ : List ℕ} → NoUnit kind suite key number r₁ → NoUnit kind suite key number r₂
      → EachFrom (Allowed kind) n us₁ → EachFrom (Allowed kind) n us₂
      → units_bytes kind suite key number n us₁ ++ r₁ ≡ units_bytes kind suite key number n us₂ ++ r₂ → (us₁ ≡ us₂) × (r₁ ≡ r₂)
  unfolding units_bytes
  units-one n no₁ no₂ none_from none_from e = (refl, e)
  units-one n no₁ no₂ none_from (more_from {a = u} a each) e = absurd (no₁ n u _ (sym (append_assoc (unit_bytes kind suite key number n u) _ _) ∙ sym e))
  units-one n no₁ no₂ (more_from {a = u} a each) none_from e = absurd (no₂ n u _ (sym (append_assoc (unit_bytes kind suite key number n u) _ _) ∙ e))
  units-one n no₁ no₂ (more_from {a = u₁} a₁ each₁) (more_from {a = u₂} a₂ each₂) e =
      let first = unit_bytes_inj n a₁ a₂
      (sym (append_assoc (unit_bytes kind suite key number n u₁) _ _) ∙ e ∙ append_assoc (unit_bytes kind suite key number n u₂) _ _) in
      let rest = units-one (suc n) no₁ no₂ each₁ each₂ first.1 in
      (λ i. first.0 i ∷ rest.0 i, rest.1)

-- under one key, one string has one suite, book number and list of units, with a close or without
pub laid_one : (kind : Kind) → WellFormed kind → {s₁ s₂ : Suite} {k₁ k₂ : List ℕ} {n₁ n₂ : ℕ} {us₁ us₂ : List BookUnit} (c₁ c₂ : Bool)
    → Bookable kind s₁ k₁ n₁ us₁ → Bookable kind s₂ k₂ n₂ us₂ → k₁ ≡ k₂
    → opening_fields s₁ n₁ ++ (units_bytes kind s₁ k₁ n₁ 0 us₁ ++ cond c₁ (close_bytes kind s₁ k₁ n₁ (length us₁)) [])
    ≡ opening_fields s₂ n₂ ++ (units_bytes kind s₂ k₂ n₂ 0 us₂ ++ cond c₂ (close_bytes kind s₂ k₂ n₂ (length us₂)) [])
    → (s₁ ≡ s₂) × (n₁ ≡ n₂) × (us₁ ≡ us₂) × (c₁ ≡ c₂)
laid_one kind wf {s₁} {s₂} {k₁} {k₂} {n₁} {n₂} {us₁} {us₂} c₁ c₂ b₁ b₂ k e =
    let start = opening_fields_inj s₁ s₂ n₁ n₂ {r₁ = rest s₁ k₁ n₁ us₁ c₁} {r₂ = rest s₂ k₂ n₂ us₂ c₂} b₁.number_fits b₂.number_fits e in
    let units = units-one kind s₁ k₁ n₁ b₁.key_long b₁.key_bytes 0
    (end-no-unit kind s₁ k₁ n₁ wf c₁ (length us₁)) (end-no-unit kind s₁ k₁ n₁ wf c₂ (length us₂)) b₁.units b₂.units
    (start.2 ∙ (λ i. rest (sym start.0 i) (sym k i) (sym start.1 i) us₂ c₂)) in
    (start.0, start.1, units.0, end-one kind s₁ k₁ n₁ c₁ c₂ (length us₁) (length us₂) units.1)
  where
    rest : Suite → List ℕ → ℕ → List BookUnit → Bool → List ℕ
    rest s k n us c = units_bytes kind s k n 0 us ++ end kind s k n c (length us)

-- one string is one book
pub book_one : (kind : Kind) → WellFormed kind → {s₁ s₂ : Suite} {key : List ℕ} {n₁ n₂ : ℕ} {us₁ us₂ : List BookUnit}
    → Bookable kind s₁ key n₁ us₁ → Bookable kind s₂ key n₂ us₂ → book_bytes kind s₁ key n₁ us₁ ≡ book_bytes kind s₂ key n₂ us₂
    → (s₁ ≡ s₂) × (n₁ ≡ n₂) × (us₁ ≡ us₂)
unfolding book_bytes
book_one kind wf b₁ b₂ e = let l = laid_one kind wf true true b₁ b₂ refl e in (l.0, l.1, l.2)
