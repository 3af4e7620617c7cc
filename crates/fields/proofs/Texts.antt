-- Laws of a unit's text: one that is written is read back, and one that is read was written.
use mathlib.Core.Path.{◌≡◌, refl, sym, ap, ◌∙◌}
use mathlib.Core.Bool.{true, ◌&&◌, and-eq-true_iff}
use mathlib.Core.List.{List, ◌++◌}
use Prim.Native.Nat.{ℕ, ◌+◌, ◌-◌, ◌≤◌, ◌<◌}
use native.Mathlib.Omega.{arith}
use borrow.Author.Tests.{leb-true, le-leb}
use lib.Dec.{leb}
use lib.ListN.{length, take, drop, length-append, length-drop, take-append-drop}
use lib.Seq.{take_at, drop_at, drop-drop, length-take-le}
use Rattle.bits.specs.Bytes.{Bytes, big_endian}
use Rattle.bits.proofs.BigEndian.{length_big_endian, bytes_big_endian, big_endian_number_of, number_of_big_endian}
use Rattle.bits.proofs.Bytes.{bytes_append, bytes_take}
use Rattle.fields.specs.Unit.{in_range, unit_text, source_length, source_of, target_of, text_in_range}

-- the range that s and t are in
pub range_told : (s t : ℕ) → in_range s t ≡ true → (1 ≤ s) × (s ≤ 4096) × (t ≤ 4096)
range_told s t e =
    let low = (and-eq-true_iff (leb 1 s) (leb s 4096 && leb t 4096)).0 e in
    let high = (and-eq-true_iff (leb s 4096) (leb t 4096)).0 low.1 in
    (leb-true 1 s low.0, leb-true s 4096 high.0, leb-true t 4096 high.1)

pub length_unit_text : (s t : List ℕ) → length (unit_text s t) ≡ 2 + (length s + length t)
unfolding unit_text
length_unit_text s t =
    length-append (big_endian 2 (length s)) (s ++ t) ∙ (λ i. length_big_endian 2 (length s) i + length-append s t i)

pub bytes_unit_text : (s t : List ℕ) → Bytes s → Bytes t → Bytes (unit_text s t)
unfolding unit_text
bytes_unit_text s t hs ht = bytes_append (big_endian 2 (length s)) (s ++ t) (bytes_big_endian 2 (length s)) (bytes_append s t hs ht)

-- a text that is written is read back
module _ (s t : List ℕ) (h : length s < 65536) where
  pub source_length_unit_text : source_length (unit_text s t) ≡ length s
  unfolding unit_text big_endian source_length
  source_length_unit_text = number_of_big_endian 2 (length s) h

  pub source_of_unit_text : source_of (unit_text s t) ≡ s
  unfolding source_of unit_text big_endian
  source_of_unit_text = ap (λ (n : ℕ). take n (s ++ t)) source_length_unit_text ∙ take_at s t (length s) refl

  pub target_of_unit_text : target_of (unit_text s t) ≡ t
  unfolding target_of unit_text big_endian
  target_of_unit_text =
      ap (λ (n : ℕ). drop (2 + n) (unit_text s t)) source_length_unit_text ∙ sym (drop-drop (length s) 2 (unit_text s t)) ∙ drop_at s t (length s) refl

pub in_range_unit_text : (s t : List ℕ) → text_in_range (length (unit_text s t)) (length s) ≡ in_range (length s) (length t)
in_range_unit_text s t =
    let long : 2 + length s ≤ length (unit_text s t) = omega (arith, length_unit_text s t) in
    let left : length (unit_text s t) - (2 + length s) ≡ length t = omega (arith, length_unit_text s t) in
    λ i. le-leb (2 + length s) (length (unit_text s t)) long i && in_range (length s) (left i)

pub length_target_of : (x : List ℕ) → length (target_of x) ≡ length x - (2 + source_length x)
unfolding target_of
length_target_of x = length-drop (2 + source_length x) x

-- a text that is read was written
module _ (x : List ℕ) (ok : text_in_range (length x) (source_length x) ≡ true) where
  long : 2 + source_length x ≤ length x
  long =
      leb-true (2 + source_length x) (length x)
      ((and-eq-true_iff (leb (2 + source_length x) (length x)) (in_range (source_length x) (length x - (2 + source_length x)))).0 ok).0

  pub length_source_of : length (source_of x) ≡ source_length x
  unfolding source_of
  length_source_of = length-take-le (source_length x) (drop 2 x) (rw length-drop (omega (arith, long)))

  pub text_held : Bytes x → unit_text (source_of x) (target_of x) ≡ x
  unfolding unit_text source_length source_of target_of
  text_held b =
      let two : length (take 2 x) ≡ 2 = length-take-le 2 x (omega (arith, long)) in
      let head : big_endian 2 (length (source_of x)) ≡ take 2 x =
      (λ i. big_endian (sym two i) (length_source_of i)) ∙ big_endian_number_of (take 2 x) (bytes_take 2 x b) in
      let rest : source_of x ++ target_of x ≡ drop 2 x =
      ap (λ (r : List ℕ). source_of x ++ r) (sym (drop-drop (source_length x) 2 x)) ∙ take-append-drop (source_length x) (drop 2 x) in
      (λ i. head i ++ rest i) ∙ take-append-drop 2 x

pub unit_text_inj : (s₁ s₂ t₁ t₂ : List ℕ) → length s₁ < 65536 → length s₂ < 65536 → unit_text s₁ t₁ ≡ unit_text s₂ t₂ → (s₁ ≡ s₂) × (t₁ ≡ t₂)
unit_text_inj s₁ s₂ t₁ t₂ h₁ h₂ e = (
  sym (source_of_unit_text s₁ t₁ h₁) ∙ ap source_of e ∙ source_of_unit_text s₂ t₂ h₂,
  sym (target_of_unit_text s₁ t₁ h₁) ∙ ap target_of e ∙ target_of_unit_text s₂ t₂ h₂,
)
