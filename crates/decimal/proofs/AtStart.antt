-- Bytes written at the start of others.
use mathlib.Core.Path.{◌≡◌, refl, sym, ap, ◌∙◌}
use mathlib.Core.List.{List, [], ◌∷◌, ◌++◌}
use Prim.Native.Nat.{ℕ, suc, ◌+◌, ◌/◌, ◌≤◌, ◌<◌}
use native.Mathlib.Omega.{arith}
use lib.ListN.{length, get_or, set, drop, length-append, length-drop}
use lib.Seq.{drop-cons, set_at, append_snoc}
use Rattle.decimal.specs.Decimal.{last_digit, digits, AtStart}
use Rattle.decimal.proofs.Digits.{digits_one, digits_more, length_one, length_more}

pub written_none : (d : List ℕ) → AtStart [] d d 0
written_none d = record { count = refl; bytes = refl }

module _ {s d e : List ℕ} {r : ℕ} (w : AtStart s d e r) where
  -- as many bytes as before
  pub written_long : length s ≤ length d → length e ≡ length d
  written_long h = ap length w.bytes ∙ length-append s (drop (length s) d) ∙ omega (arith, length-drop (length s) d)

  -- one byte more
  written-more : length s < length d → (b : ℕ) → AtStart (s ++ b ∷ []) d (set e r b) (r + 1)
  written-more h b =
      let long : length (s ++ b ∷ []) ≡ suc (length s) = length-append s (b ∷ []) ∙ omega arith in
      record {
        count = omega (arith, w.count);
        bytes =
            ap (λ (l : List ℕ). set l r b) w.bytes
            ∙ ap (λ (l : List ℕ). set (s ++ l) r b) (drop-cons d (length s) 0 h)
            ∙ set_at s (get_or d (length s) 0) (drop (suc (length s)) d) b r (sym w.count)
            ∙ sym (append_snoc s b (drop (suc (length s)) d))
            ∙ ap (λ (n : ℕ). (s ++ b ∷ []) ++ drop n d) (sym long);
      }

-- the last digit, alone or behind the others
module _ (n b : ℕ) (last : b ≡ last_digit n) (d : List ℕ) (room : length (digits n) ≤ length d) where
  pub digit_alone : n < 10 → AtStart (digits n) d (set d 0 b) 1
  digit_alone h = rw (digits_one n h, last) (written-more (written_none d) (omega (arith, length_one n h)) (last_digit n))

  pub digit_behind : 10 ≤ n → (e : List ℕ) (r : ℕ) → AtStart (digits (n / 10)) d e r → AtStart (digits n) d (set e r b) (r + 1)
  digit_behind h e r w = rw (digits_more n h, last) (written-more w (omega (arith, length_more n h)) (last_digit n))
