-- No two cipher calls of a book's sealings use the same tweak.
use mathlib.Core.Path.{◌≡◌, refl, sym, ap, ◌∙◌}
use mathlib.Core.HLevel.{⊥_prop}
use mathlib.Core.Bool.{Bool, true, false, cond}
use mathlib.Core.Logic.Or
use mathlib.Core.Logic.{◌≢◌}
use mathlib.Core.List.{List, [], ◌∷◌, ◌++◌, map, map-append, append_cancel_left}
use mathlib.Core.List.{Mem, not-mem-nil, mem-append, Disjoint, Nodup, Nodup-nil, Nodup-append}
use Prim.Native.Nat.{ℕ, suc, ◌+◌, ◌^◌, ◌≤◌, ◌<◌}
use native.Mathlib.Nat.{zero-lt-suc, add-zero, le_trans, pow-le-pow_right}
use native.Mathlib.Omega.{arith}
use lib.ListN.{length, length-append}
use Rattle.bits.specs.Bytes.{big_endian}
use Rattle.bits.proofs.BigEndian.{big_endian_inj}
use Rattle.calls.specs.Calls.{CipherCall}
use Rattle.calls.proofs.Distinct.{tweaks_distinct, tweaks_apart}
use Rattle.suites.specs.declared.suite.Suite.{Suite}
use Rattle.fields.specs.Each.{EachFrom, none_from, more_from}
use Rattle.fields.specs.Kind.{Kind, WellFormed}
use Rattle.format.specs.Sealings.{Sealing, nonce_of, unit_sealing, close_sealing, unit_sealings, sealing_calls, cipher_calls}
use Rattle.fields.specs.Unit.{BookUnit, Allowed}
use Rattle.fields.proofs.Details.{length_details_of}
use Rattle.format.proofs.Lengths.{length_opening_fields, length_nonce_of, length_unit_header, length_close_header}
use Rattle.fields.proofs.Texts.{range_told, length_unit_text}

-- a sealing under a book's nonce with the number n, in 4 bytes, far below the limits of header and text
record Numbered (number n : ℕ) (s : Sealing) : Type 0 where
  fits : n < 256 ^ 4
  nonce : s.nonce ≡ nonce_of number n
  header : length s.header ≤ 2 ^ 34
  text : length s.text ≤ 2 ^ 35

-- sealings with the numbers n, n + 1 and so on
data Consecutive (number : ℕ) : ℕ → List Sealing → Type 0 where
  done : {n : ℕ} → Consecutive number n []
  next : {n : ℕ} {s : Sealing} {ss : List Sealing} → Numbered number n s → Consecutive number (suc n) ss → Consecutive number n (s ∷ ss)

abbrev tweaks : List CipherCall → List (List ℕ)
tweaks cs = map (λ (c : CipherCall). c.tweak) cs

module _ (number : ℕ) where
  pub nonces_apart : {i j : ℕ} → i < 256 ^ 4 → j < 256 ^ 4 → i ≢ j → nonce_of number i ≢ nonce_of number j
  unfolding nonce_of
  nonces_apart {i} {j} hi hj d e = d (big_endian_inj 4 hi hj (append_cancel_left (big_endian 8 number) (big_endian 4 i) (big_endian 4 j) e))

  nonce-long : {n : ℕ} {s : Sealing} → Numbered number n s → length s.nonce ≡ 12
  nonce-long {n} a = ap length a.nonce ∙ length_nonce_of number n

  -- within one sealing, between two, and between one and those behind it
  one_apart : {n : ℕ} {s : Sealing} → Numbered number n s → Nodup (tweaks (sealing_calls s))
  unfolding sealing_calls
  one_apart {s} a =
      let l : length s.nonce ≡ 12 = nonce-long a in
      tweaks_distinct s.nonce s.header s.text (omega arith) (rw l a.header) (rw l a.text)

  two-apart : {i j : ℕ} {s t : Sealing} → Numbered number i s → Numbered number j t → i < j → Disjoint (tweaks (sealing_calls s)) (tweaks (sealing_calls t))
  unfolding sealing_calls
  two-apart {s} {t} a b h =
      tweaks_apart s.nonce t.nonce s.header s.text t.header t.text (nonce-long a ∙ sym (nonce-long b))
      (λ e. nonces_apart a.fits b.fits (omega arith) (sym a.nonce ∙ e ∙ b.nonce))

  later-apart : {i n : ℕ} {s : Sealing} {ss : List Sealing} → Numbered number i s → Consecutive number n ss → i < n
      → Disjoint (tweaks (sealing_calls s)) (tweaks (cipher_calls ss))
  unfolding cipher_calls
  later-apart a done h x m₁ m₂ = not-mem-nil m₂
  later-apart a (next {s = t} {ss} b cs) h x m₁ m₂ =
      let split : Mem x (tweaks (sealing_calls t) ++ tweaks (cipher_calls ss)) = rw map-append at m₂ in
      Or.elim ⊥_prop (mem-append.0 split) (two-apart a b h x m₁) (later-apart a cs (omega arith) x m₁)

  all_apart : {n : ℕ} {ss : List Sealing} → Consecutive number n ss → Nodup (tweaks (cipher_calls ss))
  unfolding cipher_calls
  all_apart done = Nodup-nil
  all_apart (next a cs) = rw map-append (Nodup-append.1 (one_apart a, all_apart cs, later-apart a cs (omega arith)))

-- numbers up to the kind's limit have room in the nonce's 4 bytes
pub number_fits : {kind : Kind} → WellFormed kind → {n : ℕ} → n ≤ kind.unit_limit → n < 256 ^ 4
number_fits formed h = le_trans (omega arith) (pow-le-pow_right (zero-lt-suc 255) formed.numbers_short)

module _ (kind : Kind) (formed : WellFormed kind) (suite : Suite) (number : ℕ) where
  unit-numbered : (n : ℕ) (u : BookUnit) → n ≤ kind.unit_limit → Allowed kind n u → Numbered number n (unit_sealing kind suite number n u)
  unfolding unit_sealing
  unit-numbered n u h a =
      let range = range_told (length u.source) (length u.target) a.range in
      record {
        fits = number_fits formed h;
        nonce = refl;
        header = simp (length-append, length_opening_fields, length_unit_header) (omega (arith, length_details_of kind u a.given));
        text = omega (arith, length_unit_text u.source u.target);
      }

  close-numbered : (n : ℕ) → n ≤ kind.unit_limit → Numbered number n (close_sealing kind suite number n)
  unfolding close_sealing
  close-numbered n h =
      record {
        fits = number_fits formed h;
        nonce = refl;
        header = simp (length-append, length_opening_fields, length_close_header) (omega arith);
        text = omega arith;
      }

  units-consecutive : (n : ℕ) (us : List BookUnit) (ss : List Sealing) → n + length us ≤ kind.unit_limit → EachFrom (Allowed kind) n us
      → Consecutive number (n + length us) ss → Consecutive number n (unit_sealings kind suite number n us ++ ss)
  unfolding unit_sealings
  units-consecutive n [] ss h none_from cs = rw add-zero at cs
  units-consecutive n (u ∷ us) ss h (more_from a each) cs =
      let e : n + length (u ∷ us) ≡ suc n + length us = omega arith in
      next (unit-numbered n u (omega arith) a) (units-consecutive (suc n) us ss (omega arith) each (rw e at cs))

  -- units from number n on, and the close behind them if there is one
  pub book_apart : (n : ℕ) (us : List BookUnit) (closed : Bool) → n + length us ≤ kind.unit_limit → EachFrom (Allowed kind) n us
      → Nodup
      (map (λ c. c.tweak) (cipher_calls (unit_sealings kind suite number n us ++ cond closed (close_sealing kind suite number (n + length us) ∷ []) [])))
  book_apart n us true h each = all_apart number (units-consecutive n us _ h each (next (close-numbered (n + length us) h) done))
  book_apart n us false h each = all_apart number (units-consecutive n us [] h each done)
