-- Sums and comparisons of blocks.
use mathlib.Core.Path.{◌≡◌, refl, sym, ap, ◌∙◌}
use mathlib.Core.Bool.{Bool, ◌&&◌}
use mathlib.Core.List.{List, [], ◌∷◌, ◌++◌}
use Prim.Native.Nat.{ℕ, zero, suc, ◌+◌, ◌-◌, ◌*◌, ◌/◌, ◌≤◌, ◌<◌}
use native.Mathlib.Decide.{ℕ_discrete}
use native.Mathlib.Nat.{add-zero, add-suc}
use native.Mathlib.Numerals.{add-one}
use native.Mathlib.Omega.{arith}
use borrow.Author.Tests.{eq-eqb, ne_eqb}
use lib.Bits.{bit_or, bit_xor, or_add_and, and_le_l, and_le_r, xor_self}
use lib.Dec.{eqb}
use lib.ListN.{length, get_or, set, take, drop, replicate, length-drop, drop_of_length-le}
use lib.Seq.{set_at, take_all, take_at, drop-cons, take-append-add}
use Rattle.bits.proofs.Bits.{xor_twice}
use Rattle.bits.specs.Bytes.{added}
use Rattle.calls.specs.Calls.{sum_of, filled}
use Rattle.calls.specs.Tweak.{blocks_of}
use Rattle.bits.proofs.Fronts.{drop_zeros}
use Rattle.blockwise.specs.Blocks.{block}
use Rattle.blockwise.proofs.Each.{block_long}
use Rattle.sums.specs.Sums.{sum_from}

-- differences gathered so far, and one byte of each more
or_test : (d z : ℕ) → eqb (bit_or d z) 0 ≡ (eqb d 0 && eqb z 0)
or_test d z = by (ℕ_discrete d 0) (ℕ_discrete z 0)
  where
    low : d ≤ bit_or d z
    low = omega (arith, or_add_and d z, and_le_r d z)

    high : z ≤ bit_or d z
    high = omega (arith, or_add_and d z, and_le_l d z)

    by : Dec (d ≡ 0) → Dec (z ≡ 0) → eqb (bit_or d z) 0 ≡ (eqb d 0 && eqb z 0)
    by (yes p) q = rw p refl
    by (no n) q =
        ne_eqb (bit_or d z) 0 (λ e. n (omega (arith, low)))
        ∙ sym (ap (λ (t : Bool). t && eqb z 0) (ne_eqb d 0 n))

xor_test : (x y : ℕ) → eqb (bit_xor x y) 0 ≡ eqb x y
xor_test x y = by (ℕ_discrete x y)
  where
    by : Dec (x ≡ y) → eqb (bit_xor x y) 0 ≡ eqb x y
    by (yes p) = eq-eqb (bit_xor x y) 0 (ap (λ (z : ℕ). bit_xor z y) p ∙ xor_self y) ∙ sym (eq-eqb x y p)
    by (no n) =
        ne_eqb (bit_xor x y) 0 (λ e. n (sym (xor_twice x y) ∙ ap (λ (z : ℕ). bit_xor z y) e))
        ∙ sym (ne_eqb x y n)

pub differs_more : (d x y : ℕ) → eqb (bit_or d (bit_xor x y)) 0 ≡ (eqb d 0 && eqb x y)
differs_more d x y = or_test d (bit_xor x y) ∙ ap (λ (t : Bool). eqb d 0 && t) (xor_test x y)

-- nothing stands behind the part of a string from a place on
pub part_none : (at : ℕ) (s : List ℕ) → drop (length s - at) (drop at s) ≡ []
part_none at s = drop_of_length-le (drop at s) {i = length s - at} (rw length-drop (omega arith))

-- one more
pub sum_more : (s : List ℕ) (n : ℕ) (g : ℕ → List ℕ) → sum_from s (n + 1) g ≡ added (sum_from s n g) (g n)
unfolding sum_from
sum_more s n g = ap (λ (k : ℕ). sum_from s k g) (add-one n)

pub sum_ext : (s : List ℕ) (n : ℕ) (f g : ℕ → List ℕ) → ((i : ℕ) → i < n → f i ≡ g i) → sum_from s n f ≡ sum_from s n g
unfolding sum_from
sum_ext s zero f g h = refl
sum_ext s (suc n) f g h = λ i. added (sum_ext s n f g (λ j l. h j (omega arith)) i) (h n (omega arith) i)

-- first n, then k more
pub sum_add : (s : List ℕ) (n k : ℕ) (g : ℕ → List ℕ) → sum_from s (n + k) g ≡ sum_from (sum_from s n g) k (λ i. g (n + i))
unfolding sum_from
sum_add s n zero g = ap (λ (m : ℕ). sum_from s m g) (add-zero n)
sum_add s n (suc k) g = ap (λ (m : ℕ). sum_from s m g) (add-suc n k) ∙ ap (λ (x : List ℕ). added x (g (n + k))) (sum_add s n k g)

-- from zeros on it is the definition's sum
pub sum_of_lem : (n : ℕ) (g : ℕ → List ℕ) → sum_from (replicate 16 0) n g ≡ sum_of n g
unfolding sum_from sum_of
sum_of_lem zero g = refl
sum_of_lem (suc n) g = ap (λ (x : List ℕ). added x (g n)) (sum_of_lem n g)

take_zeros : (k m : ℕ) → k ≤ m → take {A = ℕ} k (replicate m 0) ≡ replicate k 0
take_zeros zero m h = refl
take_zeros (suc k) zero h = absurd (omega arith)
take_zeros (suc k) (suc m) h = ap (λ (r : List ℕ). 0 ∷ r) (take_zeros k m (omega arith))

-- a whole block is filled as it is
pub filled_whole : (pad : ℕ) (b : List ℕ) → length b ≡ 16 → filled pad b ≡ b
unfolding filled
filled_whole pad b h = take_at b (pad ∷ replicate 15 0) 16 h

-- a shorter one by a byte stored behind it
pub filled_short : (pad : ℕ) (b : List ℕ) → length b < 16 → set (b ++ drop (length b) (replicate 16 0)) (length b) pad ≡ filled pad b
unfolding filled
filled_short pad b h =
    let n = length b in
    let z : List ℕ = replicate 16 0 in
    let left : 16 - suc n ≡ 15 - n = omega arith in
    let sixteen : n + suc (15 - n) ≡ 16 = omega arith in
    ap (λ (r : List ℕ). set (b ++ r) n pad) (drop-cons z n 0 h)
    ∙ set_at b (get_or z n 0) (drop (suc n) z) pad n refl
    ∙ ap (λ (r : List ℕ). b ++ pad ∷ r) (drop_zeros (suc n) 16 (omega arith) ∙ ap (λ (k : ℕ). replicate k 0) left ∙ sym (take_zeros (15 - n) 15 (omega arith)))
    ∙ sym (take-append-add b (pad ∷ replicate 15 0) (suc (15 - n)))
    ∙ ap (λ (k : ℕ). take k (b ++ pad ∷ replicate 15 0)) sixteen

-- all blocks of s: whole ones, and one that is shorter
module _ (sum s : List ℕ) where
  whole-blocks : (k : ℕ) → 16 * k ≤ length s → sum_from sum k (block s) ≡ sum_from sum k (λ i. filled 0 (block s i))
  whole-blocks k h = sum_ext sum k (block s) (λ i. filled 0 (block s i)) (λ i l. sym (filled_whole 0 (block s i) (block_long s i (omega arith))))

  pub all_whole : length s / 16 * 16 ≡ length s → sum_from sum (length s / 16) (block s) ≡ sum_from sum (blocks_of (length s)) (λ i. filled 0 (block s i))
  all_whole e =
      let n : length s / 16 ≡ blocks_of (length s) = omega arith in
      whole-blocks (length s / 16) (omega arith) ∙ ap (λ (k : ℕ). sum_from sum k (λ i. filled 0 (block s i))) n

  pub all_but_last : (length s / 16 * 16 ≡ length s → ⊥)
      → added (sum_from sum (length s / 16) (block s)) (filled 0 (drop (length s / 16 * 16) s)) ≡ sum_from sum (blocks_of (length s)) (λ i. filled 0 (block s i))
  unfolding sum_from
  all_but_last d =
      let k = length s / 16 in
      let n : suc k ≡ blocks_of (length s) = omega arith in
      let at : k * 16 ≡ 16 * k = omega arith in
      let last : drop (k * 16) s ≡ block s k =
      ap (λ (j : ℕ). drop j s) at ∙ sym (take_all 16 (drop (16 * k) s) (rw length-drop (omega arith))) in
      (λ i. added (whole-blocks k (omega arith) i) (filled 0 (last i))) ∙ ap (λ (j : ℕ). sum_from sum j (λ i. filled 0 (block s i))) n
