-- The array is filled from the front, part by part.
use mathlib.Core.Path.{◌≡◌, refl, ap, ◌∙◌}
use mathlib.Core.Bool.{Bool, true, false, cond, not}
use mir.Val.{bool_byte}
use mathlib.Core.List.{List, ◌∷◌, ◌++◌, append_assoc}
use Prim.Native.Nat.{ℕ}
use lib.Seq.{paste}
use native.Mathlib.Omega.{arith}
use borrow.Rule.Slice.PartMut.{put_mid}
use lib.ListN.{length, take, drop, replicate}
use Rattle.bits.specs.Bytes.{big_endian}
use Rattle.writer_state.specs.declared.Writer.{Writer}
use Rattle.writer_bytes.specs.WriterBytes.{writer_bytes}
use Rattle.writer_bytes.proofs.Fronts.{Front, front_length, number_put, block_put_lem}
use Rattle.writer_bytes.proofs.to_bytes.Goals as goal

-- what is written, as far as each part
module _ (w : Writer) where
  abbrev to_flag : List ℕ
  to_flag = w.suite.cipher ∷ w.suite.steps ∷ cond w.closed 0 1 ∷ replicate 5 0

  abbrev to_number : List ℕ
  to_number = to_flag ++ big_endian 8 w.number

  abbrev to_key : List ℕ
  to_key = to_number ++ w.key

  abbrev to_place : List ℕ
  to_place = to_key ++ big_endian 8 w.place

  abbrev to_count : List ℕ
  to_count = to_place ++ big_endian 8 w.count

  abbrev to_total : List ℕ
  to_total = to_count ++ big_endian 8 w.total

in_parts : (h n k p c t z : List ℕ) → (((((h ++ n) ++ k) ++ p) ++ c) ++ t) ++ z ≡ h ++ (n ++ (k ++ (p ++ (c ++ (t ++ z)))))
in_parts h n k p c t z = simp append_assoc

all : (w : Writer) → to_total w ++ replicate 8 0 ≡ writer_bytes w
unfolding writer_bytes
all w = in_parts (to_flag w) (big_endian 8 w.number) w.key (big_endian 8 w.place) (big_endian 8 w.count) (big_endian 8 w.total) (replicate 8 0)

flag_byte : (closed : Bool) → bool_byte (not closed) ≡ cond closed 0 1
flag_byte true = refl
flag_byte false = refl

-- the array as far as the place, and as far as the count: f is the flag, n, p and k the bytes of numbers as they were put, d behind the key
module _ (w : Writer) (f : ℕ) (flag : f ≡ bool_byte (not w.closed)) where
  abbrev flagged : List ℕ
  flagged = w.suite.cipher ∷ w.suite.steps ∷ f ∷ replicate 61 0

  to_flag_front : Front (to_flag w) 8 56 flagged
  to_flag_front = record { long = refl; is = ap (λ f. w.suite.cipher ∷ w.suite.steps ∷ f ∷ replicate 61 0) (flag ∙ flag_byte w.closed) }

  module _ (n : List ℕ) (number : n ≡ big_endian (length (take 8 (drop 8 flagged))) w.number) (long : length w.key ≡ 16)
      (d : List ℕ) (key : d ≡ paste (put_mid 8 8 flagged n) 16 w.key 16)
      (p : List ℕ) (place : p ≡ big_endian (length (take 8 (drop 32 d))) w.place) where
    placed : Front (to_place w) 40 24 (put_mid 32 8 d p)
    placed =
        let numbered : Front (to_number w) 16 48 (put_mid 8 8 flagged n) = number_put to_flag_front 8 (omega arith) w.number n number in
        let keyed : Front (to_key w) 32 32 d = block_put_lem numbered 16 (omega arith) w.key long d key in
        number_put keyed 8 (omega arith) w.place p place

    counted : (k : List ℕ) → k ≡ big_endian (length (take 8 (drop 40 (put_mid 32 8 d p)))) w.count
        → Front (to_count w) 48 16 (put_mid 40 8 (put_mid 32 8 d p) k)
    counted k count = number_put placed 8 (omega arith) w.count k count

pub slice_bounds-b-end-3 : goal.slice_bounds-b-end-3
slice_bounds-b-end-3 c =
    let front =
    placed c.args.w c.from.result c.from.ensures c.put.new.out c.put.ensures c.well_formed.0.1.1.1.0.1.0.1
    c.put_at.new.d c.put_at.ensures c.put-2.new.out c.put-2.ensures in
    omega (arith, front_length front)

pub slice_bounds-b-end-4 : goal.slice_bounds-b-end-4
slice_bounds-b-end-4 c =
    let front =
    counted c.args.w c.from.result c.from.ensures c.put.new.out c.put.ensures c.well_formed.0.1.1.1.0.1.0.1
    c.put_at.new.d c.put_at.ensures c.put-2.new.out c.put-2.ensures c.put-3.new.out c.put-3.ensures in
    omega (arith, front_length front)

pub returns : goal.returns
returns c =
    let front =
    counted c.args.w c.from.result c.from.ensures c.put.new.out c.put.ensures c.well_formed.0.1.1.1.0.1.0.1
    c.put_at.new.d c.put_at.ensures c.put-2.new.out c.put-2.ensures c.put-3.new.out c.put-3.ensures in
    (number_put front 8 (omega arith) c.args.w.total c.put-4.new.out c.put-4.ensures).is ∙ all c.args.w
