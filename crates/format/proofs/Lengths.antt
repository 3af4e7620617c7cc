-- The lengths of a book's parts, of the whole and of its call list; units behind others.
use mathlib.Core.Path.{◌≡◌, refl, sym, ap, ◌∙◌}
use mathlib.Core.List.{List, [], ◌∷◌, ◌++◌, append_assoc, append-nil}
use Prim.Native.Nat.{ℕ, suc, ◌+◌, ◌≤◌}
use native.Mathlib.Omega.{arith}
use lib.ListN.{length, length-append, length-take, length-drop}
use Rattle.bits.proofs.BigEndian.{length_big_endian}
use Rattle.calls.specs.Calls.{CipherCall}
use Rattle.calls.specs.Tweak.{blocks_of}
use Rattle.calls.proofs.Distinct.{length_calls}
use Rattle.suites.specs.declared.suite.Suite.{Suite}
use Rattle.sealing.proofs.Sealed.{length_sealed}
use Rattle.fields.specs.Each.{EachFrom, none_from, more_from}
use Rattle.fields.specs.Kind.{Kind}
use Rattle.kinds.specs.Lengths.{unit_length, close_length}
use Rattle.format.specs.Layout.{sealed_fields, unit_bytes, close_bytes, units_bytes, book_bytes, book_length}
use Rattle.format.specs.Sealings.{
  Sealing,
  opening_fields,
  unit_header,
  close_header,
  nonce_of,
  unit_sealing,
  close_sealing,
  unit_sealings,
  sealed_bytes,
  sealing_calls,
  cipher_calls,
  call_total,
}
use Rattle.fields.specs.Unit.{BookUnit, Allowed, details_of, details_length, unit_text}
use Rattle.fields.proofs.Details.{length_details_of}
use Rattle.fields.proofs.Fields.{length_field}
use Rattle.fields.proofs.Texts.{length_unit_text}

-- fields and nonces

pub length_opening_fields : (suite : Suite) (number : ℕ) → length (opening_fields suite number) ≡ 16
unfolding opening_fields
length_opening_fields suite number = simp (length-append, length_field, length_big_endian) (omega arith)

pub length_nonce_of : (number n : ℕ) → length (nonce_of number n) ≡ 12
unfolding nonce_of
length_nonce_of number n = simp (length-append, length_big_endian) (omega arith)

pub length_unit_header : (kind : Kind) (n : ℕ) (details : List ℕ) → length (unit_header kind n details) ≡ 3 + kind.number_bytes + length details
unfolding unit_header
length_unit_header kind n details = simp (length_field, length-append, length_big_endian) (omega arith)

pub length_close_header : (kind : Kind) (n : ℕ) → length (close_header kind n) ≡ 3 + kind.number_bytes
unfolding close_header
length_close_header kind n = simp (length_field, length_big_endian)

-- sealed bytes: as many as the text has, and the tag

pub length_sealed_bytes : (suite : Suite) (key : List ℕ) (s : Sealing) → length s.nonce ≤ 15
    → length (sealed_bytes suite key s) ≡ length s.text + 16
unfolding sealed_bytes
length_sealed_bytes suite key s short = length_sealed suite key s.nonce s.header s.text short (length s.text) refl

pub length_sealed_fields : (m : ℕ) (s : List ℕ) → m ≤ length s → length (sealed_fields m s) ≡ 6 + length s
unfolding sealed_fields
length_sealed_fields m s h = simp (length-append, length_field, length-take, length-drop) (omega arith)

-- units, the close and the book

module _ (kind : Kind) (suite : Suite) (key : List ℕ) (number : ℕ) where
  pub length_unit_sealed : (n : ℕ) (u : BookUnit)
      → length (sealed_bytes suite key (unit_sealing kind suite number n u)) ≡ 18 + (length u.source + length u.target)
  unfolding unit_sealing
  length_unit_sealed n u =
      length_sealed_bytes suite key (unit_sealing kind suite number n u) (simp (length_nonce_of) (omega arith))
      ∙ omega (arith, length_unit_text u.source u.target)

  pub length_close_sealed : (n : ℕ) → length (sealed_bytes suite key (close_sealing kind suite number n)) ≡ 16
  unfolding close_sealing
  length_close_sealed n = length_sealed_bytes suite key (close_sealing kind suite number n) (simp (length_nonce_of) (omega arith))

  pub length_unit_bytes : (n : ℕ) (u : BookUnit) → length (details_of kind u) ≡ details_length kind
      → length (unit_bytes kind suite key number n u) ≡ unit_length kind (length u.source) (length u.target)
  unfolding unit_bytes
  length_unit_bytes n u d =
      let text : List ℕ = unit_text u.source u.target in
      let s : List ℕ = sealed_bytes suite key (unit_sealing kind suite number n u) in
      let lt : length text ≡ 2 + (length u.source + length u.target) = length_unit_text u.source u.target in
      let ls : length s ≡ 18 + (length u.source + length u.target) = length_unit_sealed n u in
      length-append (unit_header kind n (details_of kind u)) (sealed_fields (length text) s)
      ∙ omega
      (arith, length_unit_header kind n (details_of kind u), d, length_sealed_fields (length text) s (omega arith))

  pub length_close_bytes : (n : ℕ) → length (close_bytes kind suite key number n) ≡ close_length kind
  unfolding close_bytes
  length_close_bytes n = simp (length-append, length_field) (omega (arith, length_close_header kind n, length_close_sealed n))

  pub units_bytes_append : (n : ℕ) (us vs : List BookUnit)
      → units_bytes kind suite key number n (us ++ vs) ≡ units_bytes kind suite key number n us ++ units_bytes kind suite key number (n + length us) vs
  unfolding units_bytes
  units_bytes_append n [] vs = ap (λ (k : ℕ). units_bytes kind suite key number k vs) (omega arith)
  units_bytes_append n (u ∷ us) vs =
      let b : List ℕ = unit_bytes kind suite key number n u in
      let rest : List ℕ = units_bytes kind suite key number (suc n) us in
      ap (λ (x : List ℕ). b ++ x)
      (units_bytes_append (suc n) us vs ∙ ap (λ (k : ℕ). rest ++ units_bytes kind suite key number k vs) (omega arith))
      ∙ sym (append_assoc b rest (units_bytes kind suite key number (n + length (u ∷ us)) vs))

  pub units_bytes_snoc : (n : ℕ) (us : List BookUnit) (u : BookUnit)
      → units_bytes kind suite key number n (us ++ u ∷ []) ≡ units_bytes kind suite key number n us ++ unit_bytes kind suite key number (n + length us) u
  unfolding units_bytes
  units_bytes_snoc n us u =
      units_bytes_append n us (u ∷ [])
      ∙ ap (λ (x : List ℕ). units_bytes kind suite key number n us ++ x) (append-nil (unit_bytes kind suite key number (n + length us) u))

  -- a book's length counts its first fields and its close too
  pub length_units_bytes : (n : ℕ) (us : List BookUnit) → EachFrom (Allowed kind) n us
      → 16 + (length (units_bytes kind suite key number n us) + close_length kind) ≡ book_length kind us
  unfolding units_bytes book_length
  length_units_bytes n [] none_from = omega arith
  length_units_bytes n (u ∷ us) (more_from a each) =
      let first = length_unit_bytes n u (length_details_of kind u a.given) in
      let rest = length_units_bytes (suc n) us each in
      simp length-append (omega arith)

  pub length_book_bytes : (us : List BookUnit) → EachFrom (Allowed kind) 0 us → length (book_bytes kind suite key number us) ≡ book_length kind us
  unfolding book_bytes
  length_book_bytes us each =
      simp (length-append, length_opening_fields, length_close_bytes) (omega (arith, length_units_bytes 0 us each))

-- sealings and their cipher calls

pub unit_sealings_append : (kind : Kind) (suite : Suite) (number n : ℕ) (us vs : List BookUnit)
    → unit_sealings kind suite number n (us ++ vs) ≡ unit_sealings kind suite number n us ++ unit_sealings kind suite number (n + length us) vs
unfolding unit_sealings
unit_sealings_append kind suite number n [] vs = ap (λ (k : ℕ). unit_sealings kind suite number k vs) (omega arith)
unit_sealings_append kind suite number n (u ∷ us) vs =
    ap (λ (x : List Sealing). unit_sealing kind suite number n u ∷ x)
    (unit_sealings_append kind suite number (suc n) us vs
    ∙ ap (λ (k : ℕ). unit_sealings kind suite number (suc n) us ++ unit_sealings kind suite number k vs) (omega arith))

pub length_sealing_calls : (s : Sealing) → length (sealing_calls s) ≡ blocks_of (length s.header) + blocks_of (length s.text) + 1
unfolding sealing_calls
length_sealing_calls s = length_calls s.nonce s.header s.text

pub length_cipher_calls : (ss : List Sealing) → length (cipher_calls ss) ≡ call_total ss
unfolding cipher_calls call_total
length_cipher_calls [] = refl
length_cipher_calls (s ∷ ss) =
    length-append (sealing_calls s) (cipher_calls ss) ∙ (λ j. length_sealing_calls s j + length_cipher_calls ss j)

pub cipher_calls_append : (ss ts : List Sealing) → cipher_calls (ss ++ ts) ≡ cipher_calls ss ++ cipher_calls ts
unfolding cipher_calls
cipher_calls_append [] ts = refl
cipher_calls_append (s ∷ ss) ts =
    ap (λ (x : List CipherCall). sealing_calls s ++ x) (cipher_calls_append ss ts) ∙ sym (append_assoc (sealing_calls s) (cipher_calls ss) (cipher_calls ts))

pub call_total_append : (ss ts : List Sealing) → call_total (ss ++ ts) ≡ call_total ss + call_total ts
unfolding call_total
call_total_append [] ts = omega arith
call_total_append (s ∷ ss) ts = omega (arith, call_total_append ss ts)
