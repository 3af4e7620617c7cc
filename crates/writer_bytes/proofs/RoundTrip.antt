-- A writer comes back from its bytes.
use mathlib.Core.Path.{◌≡◌, refl, sym, ap, ◌∙◌}
use mathlib.Core.Bool.{Bool, true, false, cond, not}
use mathlib.Core.List.{List, ◌++◌}
use Prim.Native.Nat.{ℕ, ◌+◌, ◌^◌, ◌<◌}
use lib.Dec.{eqb}
use lib.ListN.{length, take, drop, replicate}
use lib.Seq.{take_at, drop_at, drop-drop}
use Rattle.bits.specs.Bytes.{big_endian, number_of}
use Rattle.bits.proofs.BigEndian.{length_big_endian, number_of_big_endian}
use Rattle.writer_state.specs.Writer.{no_writer}
use Rattle.writer_state.specs.declared.Writer.{Writer}
use Rattle.writer_bytes.specs.WriterBytes.{writer_of, writer_bytes}

-- p stands at a place of b, and q behind it
module _ (b : List ℕ) (at k : ℕ) (p q : List ℕ) (long : length p ≡ k) (here : drop at b ≡ p ++ q) where
  there : take k (drop at b) ≡ p
  there = ap (take k) here ∙ take_at p q k long

  next : drop (at + k) b ≡ q
  next = sym (drop-drop k at b) ∙ ap (drop k) here ∙ drop_at p q k long

module _ (b : List ℕ) (at v : ℕ) (q : List ℕ) (here : drop at b ≡ big_endian 8 v ++ q) where
  number-there : v < 2 ^ 64 → number_of (take 8 (drop at b)) ≡ v
  number-there small = ap number_of (there b at 8 (big_endian 8 v) q (length_big_endian 8 v) here) ∙ number_of_big_endian 8 v small

  next-number : drop (at + 8) b ≡ q
  next-number = next b at 8 (big_endian 8 v) q (length_big_endian 8 v) here

flag_of : (closed : Bool) → not (eqb (cond closed 0 1) 1) ≡ closed
flag_of true = refl
flag_of false = refl

pub writer_of_writer_bytes : (w : Writer) → length w.key ≡ 16
    → w.number < 2 ^ 64 → w.place < 2 ^ 64 → w.count < 2 ^ 64 → w.total < 2 ^ 64
    → writer_of (writer_bytes w) ≡ w
unfolding writer_of writer_bytes
writer_of_writer_bytes w long hn hp hc ht =
    let b = writer_bytes w in
    let after-total : List ℕ = replicate 8 0 in
    let after-count = big_endian 8 w.total ++ after-total in
    let after-place = big_endian 8 w.count ++ after-count in
    let after-key = big_endian 8 w.place ++ after-place in
    let after-number = w.key ++ after-key in
    let key-at : drop 16 b ≡ after-number = next-number b 8 w.number after-number refl in
    let place_at : drop 32 b ≡ after-key = next b 16 16 w.key after-key long key-at in
    let count_at : drop 40 b ≡ after-place = next-number b 32 w.place after-place place_at in
    let total-at : drop 48 b ≡ after-count = next-number b 40 w.count after-count count_at in
    λ i. record {
      suite = w.suite;
      key = there b 16 16 w.key after-key long key-at i;
      number = number-there b 8 w.number after-number refl hn i;
      place = number-there b 32 w.place after-place place_at hp i;
      count = number-there b 40 w.count after-count count_at hc i;
      total = number-there b 48 w.total after-total total-at ht i;
      closed = flag_of w.closed i;
    }

-- the closed writer of zeros
pub writer_bytes_none : writer_bytes no_writer ≡ replicate 64 0
unfolding writer_bytes big_endian
writer_bytes_none = refl
