-- Strings of bytes added by xor.
use mathlib.Core.Path.{◌≡◌, refl, ap}
use mathlib.Core.List.{List, [], ◌∷◌, zip_with}
use Prim.Native.Nat.{ℕ, zero, suc, ◌≤◌, ◌<◌}
use native.Mathlib.Nat.{le_of_suc-le-suc, not-suc-le-zero}
use lib.Bits.{bit_xor, xor_comm, xor_zero_r, xor_lt}
use lib.ListN.{length, get_or, replicate}
use Rattle.bits.specs.Bytes.{added, Bytes}
use Rattle.bits.proofs.Bits.{xor_assoc, xor_twice}

pub length_added : (x y : List ℕ) → length x ≤ length y → length (added x y) ≡ length x
unfolding added zip_with
length_added [] y h = refl
length_added (a ∷ x) (b ∷ y) h = ap suc (length_added x y (le_of_suc-le-suc h))
length_added (a ∷ x) [] h = absurd (not-suc-le-zero h)

pub added_comm : (x y : List ℕ) → added x y ≡ added y x
unfolding added zip_with
added_comm [] [] = refl
added_comm [] (b ∷ y) = refl
added_comm (a ∷ x) [] = refl
added_comm (a ∷ x) (b ∷ y) = λ i. xor_comm a b i ∷ added_comm x y i

pub added_assoc : (x y z : List ℕ) → added (added x y) z ≡ added x (added y z)
unfolding added zip_with
added_assoc [] y z = refl
added_assoc (a ∷ x) [] z = refl
added_assoc (a ∷ x) (b ∷ y) [] = refl
added_assoc (a ∷ x) (b ∷ y) (c ∷ z) = λ i. xor_assoc a b c i ∷ added_assoc x y z i

pub added_zeros : (x : List ℕ) (k : ℕ) → length x ≤ k → added x (replicate k 0) ≡ x
unfolding added zip_with
added_zeros [] k h = refl
added_zeros (a ∷ x) zero h = absurd (not-suc-le-zero h)
added_zeros (a ∷ x) (suc k) h = λ i. xor_zero_r a i ∷ added_zeros x k (le_of_suc-le-suc h) i

-- what was added twice is gone
pub added_twice : (x p : List ℕ) → length x ≤ length p → added (added x p) p ≡ x
unfolding added zip_with
added_twice [] p h = refl
added_twice (a ∷ x) [] h = absurd (not-suc-le-zero h)
added_twice (a ∷ x) (b ∷ p) h = λ i. xor_twice a b i ∷ added_twice x p (le_of_suc-le-suc h) i

pub get_or_added : (x y : List ℕ) (i : ℕ) → i < length x → i < length y → get_or (added x y) i 0 ≡ bit_xor (get_or x i 0) (get_or y i 0)
unfolding added zip_with
get_or_added [] y i h k = absurd (not-suc-le-zero h)
get_or_added (a ∷ x) [] i h k = absurd (not-suc-le-zero k)
get_or_added (a ∷ x) (b ∷ y) zero h k = refl
get_or_added (a ∷ x) (b ∷ y) (suc i) h k = get_or_added x y i (le_of_suc-le-suc h) (le_of_suc-le-suc k)

added_fit : (x y : List ℕ) → ((i : ℕ) → get_or x i 0 < 256) → ((i : ℕ) → get_or y i 0 < 256) → (i : ℕ) → get_or (added x y) i 0 < 256
unfolding added zip_with
added_fit [] y hx hy i = hx i
added_fit (a ∷ x) [] hx hy i = hy 0
added_fit (a ∷ x) (b ∷ y) hx hy zero = xor_lt 8 a b (hx 0) (hy 0)
added_fit (a ∷ x) (b ∷ y) hx hy (suc i) = added_fit x y (λ j. hx (suc j)) (λ j. hy (suc j)) i

pub bytes_added : (x y : List ℕ) → Bytes x → Bytes y → Bytes (added x y)
bytes_added x y hx hy = record { fit = added_fit x y hx.fit hy.fit }
