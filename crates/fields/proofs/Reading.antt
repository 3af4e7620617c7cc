-- Numbers and fields read from their bytes.
use mathlib.Core.Path.{◌≡◌, sym, ap, ◌∙◌}
use mathlib.Core.Bool.{false, ◌&&◌}
use mathlib.Core.List.{List}
use Prim.Native.Nat.{ℕ, ◌+◌, ◌*◌, ◌^◌, ◌≤◌, ◌<◌, min}
use native.Mathlib.Nat.{pow-le-pow_right}
use native.Mathlib.Decide.{dec_lt}
use native.Mathlib.Numerals.{add-one}
use native.Mathlib.Omega.{arith}
use borrow.Author.Tests.{le-leb, lt-leb}
use lib.Dec.{eqb}
use lib.ListN.{length, get_or, take, length-take}
use lib.Seq.{take_all, take-suc}
use Rattle.bits.specs.Bytes.{Bytes, number_of}
use Rattle.bits.proofs.BigEndian.{number_of_lt, number_of_snoc}
use Rattle.bits.proofs.Bytes.{bytes_take}
use Rattle.fields.specs.Field.{field_length, has_field}
use Rattle.fields.proofs.Pair.{pair_at}

-- the number of the first i bytes
module _ (s : List ℕ) (i : ℕ) where
  pub number_below : Bytes s → (k : ℕ) → i ≤ k → number_of (take i s) < 256 ^ k
  number_below h k l =
      let up : 256 ^ length (take i s) ≤ 256 ^ k = pow-le-pow_right (omega arith) (rw length-take (omega arith)) in
      omega (arith, number_of_lt (take i s) (bytes_take i s h))

  -- with one byte more it fits 64 bits
  pub number_fits : Bytes s → i < 8 → number_of (take i s) * 256 + get_or s i 0 < 256 ^ 8
  number_fits h l = omega (arith, number_below h 7 (omega arith), h.fit i)

  pub number_next : i < length s → number_of (take i s) * 256 + get_or s i 0 ≡ number_of (take (i + 1) s)
  number_next h = sym (ap (λ (n : ℕ). number_of (take n s)) (add-one i) ∙ ap number_of (take-suc s i 0 h) ∙ number_of_snoc (take i s) (get_or s i 0))

-- the first k bytes, or all if there are fewer
pub taken_min : (k : ℕ) (s : List ℕ) → take (min (length s) k) s ≡ take k s
taken_min k s = at (dec_lt (length s) k)
  where
    at : Dec (length s < k) → take (min (length s) k) s ≡ take k s
    at (yes l) =
        let less : min (length s) k ≡ length s = omega arith in
        ap (λ (n : ℕ). take n s) less ∙ take_all (length s) s (omega arith) ∙ sym (take_all k s (omega arith))
    at (no m) =
        let less : min (length s) k ≡ k = omega arith in
        ap (λ (n : ℕ). take n s) less

-- a field's length, of its bytes
pub length_is : (s : List ℕ) → 3 ≤ length s → get_or s 1 0 * 256 + get_or s 2 0 ≡ field_length s
unfolding field_length
length_is s h = pair_at s 1 h

module _ (tag n : ℕ) (s : List ℕ) where
  pub bytes_missing : length s < 3 + n → false ≡ has_field tag n s
  unfolding has_field
  bytes_missing h = rw (lt-leb (3 + n) (length s) h)

  pub field_there : 3 + n ≤ length s → (eqb (get_or s 0 0) tag && eqb (get_or s 1 0 * 256 + get_or s 2 0) n) ≡ has_field tag n s
  unfolding has_field
  field_there h = rw (le-leb (3 + n) (length s) h) (ap (λ (m : ℕ). eqb (get_or s 0 0) tag && eqb m n) (length_is s (omega arith)))
