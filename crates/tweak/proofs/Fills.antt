-- Strings that a loop fills from the back, and block by block.
use mathlib.Core.Path.{◌≡◌, sym, ap, ◌∙◌}
use mathlib.Core.List.{List, [], ◌∷◌, ◌++◌, append_assoc, append-nil}
use Prim.Native.Nat.{ℕ, suc, ◌+◌, ◌-◌, ◌*◌, ◌/◌, ◌%◌, ◌^◌, ◌≤◌}
use native.Mathlib.Nat.{le_of_eq}
use native.Mathlib.Numerals.{add-one}
use native.Mathlib.Omega.{arith}
use lib.ListN.{length, get_or, set, take, drop, replicate}
use lib.Seq.{
  paste,
  get_or_at,
  set_at,
  take_at,
  drop_at,
  take_all,
  drop-drop,
  drop-paste,
  take-append_seam,
  take-append-le,
  take-append-add,
  length-take-le,
  length_paste_head,
}
use Rattle.bits.specs.Bytes.{big_endian}
use Rattle.calls.specs.Tweak.{tweak}
use Rattle.bits.proofs.BigEndian.{big_endian_marked}
use Rattle.blockwise.specs.Blocks.{strung}
use Rattle.blockwise.proofs.Each.{strung_whole}

-- a mark added in the first byte of a number that stands behind p
mark_more : (p rest : List ℕ) (n k m v : ℕ) → length p ≡ n
    → set (p ++ (big_endian (suc k) v ++ rest)) n ((m + get_or (p ++ (big_endian (suc k) v ++ rest)) n 0) % 256)
    ≡ p ++ (big_endian (suc k) (m * 256 ^ k + v) ++ rest)
unfolding big_endian
mark_more p rest n k m v long =
    let sum : (m + v / 256 ^ k % 256) % 256 ≡ (m + v / 256 ^ k) % 256 = both m (v / 256 ^ k) in
    ap (λ (x : ℕ). set (p ++ (big_endian (suc k) v ++ rest)) n ((m + x) % 256)) (get_or_at p (v / 256 ^ k % 256) (big_endian k v ++ rest) 0 n long)
    ∙ set_at p (v / 256 ^ k % 256) (big_endian k v ++ rest) ((m + v / 256 ^ k % 256) % 256) n long
    ∙ ap (λ (x : ℕ). p ++ x ∷ (big_endian k v ++ rest)) sum
    ∙ ap (λ (r : List ℕ). p ++ (r ++ rest)) (sym (big_endian_marked k m v))
  where
    both : (x y : ℕ) → (x + y % 256) % 256 ≡ (x + y) % 256
    both x y = omega arith

-- a block put at a place, up to its byte n
put_front : (d b : List ℕ) (at n : ℕ) → n ≤ length b → at ≤ length d → length b ≡ 16 → take (at + n) (paste d at b 16) ≡ take at d ++ take n b
put_front d b at n hn hd hb =
    let rest = drop (at + 16) d in
    (λ i. take (at + n) (take at d ++ take_all 16 b (le_of_eq hb) i ++ rest))
    ∙ ap (take (at + n)) (append_assoc (take at d) b rest)
    ∙ ap (λ (k : ℕ). take (k + n) (take at d ++ (b ++ rest))) (sym (length-take-le at d hd))
    ∙ take-append-add (take at d) (b ++ rest) n
    ∙ ap (λ (r : List ℕ). take at d ++ r) (take-append-le n b rest hn)

-- a block put at a place, then a number over its bytes from n on, then a mark added in the first of these
module _ (d b : List ℕ) (at n m v : ℕ) (hn : n ≤ 15) (hd : at + 16 ≤ length d) (hb : length b ≡ 16) where
  pub marked_put : {t u : List ℕ} {x : ℕ} → t ≡ paste d at b 16
      → u ≡ take (at + n) t ++ (big_endian (16 - n) v ++ drop (at + 16) t)
      → x ≡ (m + get_or u (at + n) 0) % 256
      → set u (at + n) x ≡ take at d ++ (take n b ++ big_endian (16 - n) (m * 256 ^ (15 - n) + v)) ++ drop (at + 16) d
  marked_put {t} {u} put number sum =
      let front : List ℕ = take at d ++ take n b in
      let rest : List ℕ = drop (at + 16) d in
      let k : 16 - n ≡ suc (15 - n) = omega arith in
      let long : length front ≡ at + n = length_paste_head d at b n (omega arith) (omega arith) in
      let start : take (at + n) t ≡ front = ap (take (at + n)) put ∙ put_front d b at n (omega arith) (omega arith) hb in
      let end : drop (at + 16) t ≡ rest = ap (drop (at + 16)) put ∙ drop-paste d at b 16 (omega arith) (le_of_eq (sym hb)) in
      let made : u ≡ front ++ (big_endian (suc (15 - n)) v ++ rest) = number ∙ (λ i. start i ++ (big_endian (k i) v ++ end i)) in
      ap (set u (at + n)) sum
      ∙ ap (λ (r : List ℕ). set r (at + n) ((m + get_or r (at + n) 0) % 256)) made
      ∙ mark_more front rest (at + n) (15 - n) m v long
      ∙ ap (λ (j : ℕ). front ++ (big_endian j (m * 256 ^ (15 - n) + v) ++ rest)) (sym k)
      ∙ sym (append_assoc front (big_endian (16 - n) (m * 256 ^ (15 - n) + v)) rest)
      ∙ ap (λ (r : List ℕ). r ++ rest) (append_assoc (take at d) (take n b) (big_endian (16 - n) (m * 256 ^ (15 - n) + v)))

-- over a nonce and zeros, that block is the tweak
pub tweak_made : (nonce : List ℕ) {base : List ℕ} (mark v : ℕ) → base ≡ nonce ++ replicate (16 - length nonce) 0
    → take (length nonce) base ++ big_endian (16 - length nonce) (mark * 256 ^ (15 - length nonce) + v) ≡ tweak nonce mark v
unfolding tweak
tweak_made nonce mark v e =
    ap (λ (b : List ℕ). take (length nonce) b ++ big_endian (16 - length nonce) (mark * 256 ^ (15 - length nonce) + v)) e
    ∙ ap (λ (r : List ℕ). r ++ big_endian (16 - length nonce) (mark * 256 ^ (15 - length nonce) + v)) (take-append_seam nonce (replicate (16 - length nonce) 0))

-- with nothing around it
pub tweak_alone : (nonce : List ℕ) {base t : List ℕ} (mark v : ℕ) → base ≡ nonce ++ replicate (16 - length nonce) 0
    → t ≡ take (length nonce) base ++ big_endian (16 - length nonce) (mark * 256 ^ (15 - length nonce) + v) ++ [] → t ≡ tweak nonce mark v
tweak_alone nonce mark v e put =
    put ∙ ap (λ (r : List ℕ). r ++ []) (tweak_made nonce mark v e) ∙ append-nil (tweak nonce mark v)

-- block by block
module _ (g : ℕ → List ℕ) (long : (i : ℕ) → length (g i) ≡ 16) where
  pub strung_more : (d : List ℕ) (n : ℕ) {t u b : List ℕ} → t ≡ strung n g ++ drop (16 * n) d → b ≡ g n → u ≡ take (16 * n) t ++ b ++ drop (16 * n + 16) t
      → u ≡ strung (n + 1) g ++ drop (16 * (n + 1)) d
  unfolding strung
  strung_more d n {t} so_far block put =
      let whole : length (strung n g) ≡ 16 * n = strung_whole n g (λ i l. long i) in
      let front : take (16 * n) t ≡ strung n g = ap (take (16 * n)) so_far ∙ take_at (strung n g) (drop (16 * n) d) (16 * n) whole in
      let sixteens : 16 * n + 16 ≡ 16 * suc n = omega arith in
      let end : drop (16 * n + 16) t ≡ drop (16 * suc n) d =
      sym (drop-drop 16 (16 * n) t)
      ∙ ap (λ (l : List ℕ). drop 16 (drop (16 * n) l)) so_far
      ∙ ap (drop 16) (drop_at (strung n g) (drop (16 * n) d) (16 * n) whole)
      ∙ drop-drop 16 (16 * n) d
      ∙ ap (λ (m : ℕ). drop m d) sixteens in
      put ∙ (λ i. front i ++ block i ++ end i) ∙ sym (ap (λ (m : ℕ). strung m g ++ drop (16 * m) d) (add-one n))
