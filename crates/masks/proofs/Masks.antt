-- One bit of four rows times a column of the matrix, for each bit, and the sum of these: the matrix times the four rows.
use mathlib.Core.Path.{◌≡◌, refl, sym, ap, ◌∙◌}
use mathlib.Core.List.{List, [], ◌∷◌}
use Prim.Native.Nat.{ℕ, zero, suc, ◌+◌, ◌-◌, ◌*◌, ◌/◌, ◌%◌, ◌^◌, ◌<◌}
use native.Mathlib.Nat.{zero-mul, one-mul, add-mul, mul_right_comm, add_comm, mod-lt, mod-one, mod-eq_of_lt}
use native.Mathlib.Numerals.{one-add}
use native.Mathlib.Omega.{arith}
use lib.Bits.{bit_and, bit_xor, and_block, and_mask, xor_comm, xor_shifted}
use lib.ListN.{length, get_or}
use lib.Pow.{pow_pos, split, shr-shr, field, mod-mod-pow, mod-pow-add}
use Rattle.bits.specs.Bit.{bit}
use Rattle.bits.specs.Table.{tab}
use Rattle.bits.proofs.Lists.{get_or_tab}
use Rattle.bits.proofs.Bits.{two, bit_lt}
use Rattle.state.specs.declared.State.{State}
use Rattle.state.specs.State.{rows_of}
use Rattle.state.proofs.Words.{Digits, digits, xor_digits}
use Rattle.lbox.specs.Lbox
use Rattle.lbox.proofs.Matrix.{times_linear, times_lt}
use Rattle.masks.specs.Products.{Products, ones, sum, sum_of}

-- and with these: the lowest bits of the rows
and_next : (z b : ℕ) → bit_and z (b * 65536 + 1) ≡ bit_and (z / 65536) b * 65536 + z % 2
and_next z b =
    let low : bit_and (z % 65536) 1 ≡ z % 65536 % 2 = and_mask (z % 65536) 1 in
    let both : bit_and (z / 65536 * 65536 + z % 65536) (b * 65536 + 1) ≡ bit_and (z / 65536) b * 65536 + bit_and (z % 65536) 1 =
    and_block 16 (z / 65536) b (z % 65536) 1 (omega arith) (omega arith) in
    ap (λ (n : ℕ). bit_and n (b * 65536 + 1)) (sym (split z 16)) ∙ both ∙ omega arith

four_digits : {z y x w : ℕ} (a b c d : ℕ) → z ≡ y * 65536 + a → y ≡ x * 65536 + b → x ≡ w * 65536 + c → w ≡ d
    → z ≡ a + b * 65536 + c * 4294967296 + d * 281474976710656
four_digits a b c d e f g h = omega arith

and_ones : (z : ℕ) → bit_and z ones ≡ z % 2 + z / 65536 % 2 * 65536 + z / 4294967296 % 2 * 4294967296 + z / 281474976710656 % 2 * 281474976710656
and_ones z =
    four_digits (z % 2) (z / 65536 % 2) (z / 4294967296 % 2) (z / 281474976710656 % 2)
    (and_next z 0x000100010001)
    (and_next (z / 65536) 0x00010001 ∙ ap (λ (y : ℕ). bit_and y 0x00010001 * 65536 + z / 65536 % 2) (shr-shr z 16 16))
    (and_next (z / 4294967296) 1 ∙ ap (λ (y : ℕ). bit_and y 1 * 65536 + z / 4294967296 % 2) (shr-shr z 32 16))
    (and_mask (z / 281474976710656) 1)

-- bit i of a row
low_bit : (n i : ℕ) → i < 16 → n / 2 ^ i % 2 ≡ bit (n % 65536) i
unfolding bit
low_bit n i h =
    let all : 16 - i + i ≡ 16 = omega arith in
    let rest : 15 - i + 1 ≡ 16 - i = omega arith in
    sym
    (ap (λ (e : ℕ). n % 2 ^ e / 2 ^ i % 2) (sym all)
    ∙ ap (λ (y : ℕ). y % 2) (field n (16 - i) i)
    ∙ ap (λ (e : ℕ). n / 2 ^ i % 2 ^ e % 2) (sym rest)
    ∙ mod-mod-pow (n / 2 ^ i) (15 - i) 1)

row_bit : (k x i : ℕ) → i < 16 → x / 2 ^ i / 2 ^ k % 2 ≡ bit (x / 2 ^ k % 65536) i
row_bit k x i h =
    ap (λ (y : ℕ). y % 2) (shr-shr x i k ∙ ap (λ (e : ℕ). x / 2 ^ e) (add_comm i k) ∙ sym (shr-shr x k i)) ∙ low_bit (x / 2 ^ k) i h

-- a bit times a column is a row
bit_times : (c : ℕ) → c < 65536 → (b : ℕ) → b < 2 → b * c < 65536
bit_times c h = two (λ (b : ℕ). b * c < 65536) (rw zero-mul (omega arith)) (rw one-mul h)

four_times : (a b d e c : ℕ)
    → (a + b * 65536 + d * 4294967296 + e * 281474976710656) * c ≡ a * c + b * c * 65536 + d * c * 4294967296 + e * c * 281474976710656
four_times a b d e c =
    rw (add-mul, add-mul, add-mul, mul_right_comm b 65536 c, mul_right_comm d 4294967296 c, mul_right_comm e 281474976710656 c)

-- bit i of all four rows times a column
product_digits : (x i c : ℕ) → i < 16 → c < 65536
    → Digits (bit_and (x / 2 ^ i) ones * c)
    (bit (x % 65536) i * c)
    (bit (x / 65536 % 65536) i * c)
    (bit (x / 4294967296 % 65536) i * c)
    (bit (x / 281474976710656 % 65536) i * c)
product_digits x i c h k =
    let fits : (n : ℕ) → bit n i * c < 65536 = λ n. bit_times c k (bit n i) (bit_lt n i) in
    digits (bit (x % 65536) i * c) (bit (x / 65536 % 65536) i * c) (bit (x / 4294967296 % 65536) i * c) (bit (x / 281474976710656 % 65536) i * c)
    (fits (x % 65536)) (fits (x / 65536 % 65536)) (fits (x / 4294967296 % 65536)) (fits (x / 281474976710656 % 65536))
    (ap (λ (n : ℕ). n * c) (and_ones (x / 2 ^ i))
    ∙ four_times _ _ _ _ c
    ∙ (λ j.
    low_bit x i h j * c + row_bit 16 x i h j * c * 65536 + row_bit 32 x i h j * c * 4294967296 + row_bit 48 x i h j * c * 281474976710656))

-- the digits of a sum are the sums of the digits
sum_digits : (n : ℕ) (f a b c d : ℕ → ℕ) → ((i : ℕ) → i < n → Digits (f i) (a i) (b i) (c i) (d i)) → Digits (sum n f) (sum n a) (sum n b) (sum n c) (sum n d)
unfolding sum
sum_digits zero f a b c d h = record { first = refl; second = refl; third = refl; fourth = refl }
sum_digits (suc n) f a b c d h =
    let s = sum_digits n f a b c d (λ i l. h i (omega arith)) in
    let l = h n (omega arith) in
    let x = xor_digits (sum n f) (f n) in
    record {
      first = x.first ∙ (λ j. bit_xor (s.first j) (l.first j));
      second = x.second ∙ (λ j. bit_xor (s.second j) (l.second j));
      third = x.third ∙ (λ j. bit_xor (s.third j) (l.third j));
      fourth = x.fourth ∙ (λ j. bit_xor (s.fourth j) (l.fourth j));
    }

-- the columns at a row's bits, added: column i is the matrix times 2 ^ i
by_bits : (m : List (List ℕ)) (d n : ℕ) → sum n (λ i. bit d i * Lbox.times m (2 ^ i)) ≡ Lbox.times m (d % 2 ^ n)
unfolding bit sum
by_bits m d zero = sym (ap (Lbox.times m) (mod-one d) ∙ (times_linear m).none)
by_bits m d (suc n) =
    (λ j. bit_xor (by_bits m d n j) (scaled (bit d n) (bit_lt d n) j))
    ∙ sym ((times_linear m).sum (d % 2 ^ n) (bit d n * 2 ^ n))
    ∙ ap (Lbox.times m)
    (xor_comm (d % 2 ^ n) (bit d n * 2 ^ n)
    ∙ xor_shifted (bit d n) n (d % 2 ^ n) (mod-lt d (pow_pos n))
    ∙ sym (mod-pow-add d 1 n)
    ∙ ap (λ (e : ℕ). d % 2 ^ e) (one-add n))
  where
    scaled : (b : ℕ) → b < 2 → b * Lbox.times m (2 ^ n) ≡ Lbox.times m (b * 2 ^ n)
    scaled =
        two (λ (b : ℕ). b * Lbox.times m (2 ^ n) ≡ Lbox.times m (b * 2 ^ n))
        (zero-mul (Lbox.times m (2 ^ n)) ∙ sym (ap (Lbox.times m) (zero-mul (2 ^ n)) ∙ (times_linear m).none))
        (one-mul (Lbox.times m (2 ^ n)) ∙ sym (ap (Lbox.times m) (one-mul (2 ^ n))))

-- terms that are equal have equal sums
sum_ext : (n : ℕ) (f g : ℕ → ℕ) → ((i : ℕ) → i < n → f i ≡ g i) → sum n f ≡ sum n g
unfolding sum
sum_ext zero f g h = refl
sum_ext (suc n) f g h = λ j. bit_xor (sum_ext n f g (λ i l. h i (omega arith)) j) (h n (omega arith) j)

module _ (m : List (List ℕ)) (long : length m ≡ 16) where
  -- the whole of the matrix times a row
  whole : (d : ℕ) → d < 65536 → sum 16 (λ i. bit d i * Lbox.times m (2 ^ i)) ≡ Lbox.times m d
  whole d h = by_bits m d 16 ∙ ap (Lbox.times m) (mod-eq_of_lt h)

  products_are : (x : ℕ) → Products m x (sum 16 (λ i. bit_and (x / 2 ^ i) ones * Lbox.times m (2 ^ i)))
  products_are x =
      let column : (i : ℕ) → Lbox.times m (2 ^ i) < 65536 = λ i. rw long at (times_lt m (2 ^ i)) in
      let s = sum_digits 16 (λ i. bit_and (x / 2 ^ i) ones * Lbox.times m (2 ^ i))
      (λ i. bit (x % 65536) i * Lbox.times m (2 ^ i))
      (λ i. bit (x / 65536 % 65536) i * Lbox.times m (2 ^ i))
      (λ i. bit (x / 4294967296 % 65536) i * Lbox.times m (2 ^ i))
      (λ i. bit (x / 281474976710656 % 65536) i * Lbox.times m (2 ^ i))
      (λ i h. product_digits x i (Lbox.times m (2 ^ i)) h (column i)) in
      record {
        first = s.first ∙ whole (x % 65536) (omega arith);
        second = s.second ∙ whole (x / 65536 % 65536) (omega arith);
        third = s.third ∙ whole (x / 4294967296 % 65536) (omega arith);
        fourth = s.fourth ∙ whole (x / 281474976710656 % 65536) (omega arith);
      }

  -- by columns that are the matrix times the single bits
  module _ {columns : List ℕ} (are : columns ≡ tab 16 (λ i. Lbox.times m (2 ^ i))) where
    summed_are : (x : ℕ) {r : ℕ} → r ≡ sum_of 16 columns x → Products m x r
    summed_are x e =
        let f : ℕ → ℕ = λ i. bit_and (x / 2 ^ i) ones in
        let same = sum_ext 16 (λ i. f i * get_or columns i 0) (λ i. f i * Lbox.times m (2 ^ i))
        (λ i h. ap (λ (n : ℕ). f i * n) (ap (λ (l : List ℕ). get_or l i 0) are ∙ get_or_tab 16 (λ i. Lbox.times m (2 ^ i)) i h)) in
        rw (e ∙ same) (products_are x)

    -- two words multiplied are the layer
    pub layer_is : (s r : State) → r.low ≡ sum_of 16 columns s.low → r.high ≡ sum_of 16 columns s.high
        → rows_of r ≡ Lbox.layer m (rows_of s)
    unfolding rows_of Lbox.layer
    layer_is s r e f =
        let l = summed_are s.low e in
        let h = summed_are s.high f in
        λ i. l.first i ∷ l.second i ∷ l.third i ∷ l.fourth i ∷ h.first i ∷ h.second i ∷ h.third i ∷ h.fourth i ∷ []
