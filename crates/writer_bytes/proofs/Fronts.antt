-- An array of zeros that is filled from the front.
use mathlib.Core.Path.{◌≡◌, sym, ap, ◌∙◌}
use mathlib.Core.List.{List, ◌++◌, append_assoc}
use Prim.Native.Nat.{ℕ, ◌+◌, ◌-◌, ◌≤◌}
use native.Mathlib.Omega.{arith}
use lib.ListN.{length, take, drop, replicate, length-append, length-replicate}
use lib.Seq.{paste, take-length, take_at, drop_at, drop-drop, length-take-le}
use Rattle.bits.specs.Bytes.{big_endian}
use Rattle.bits.proofs.BigEndian.{length_big_endian}
use Rattle.bits.proofs.Fronts.{drop_zeros}

-- b is x, of a bytes, and n zeros
pub record Front (x : List ℕ) (a n : ℕ) (b : List ℕ) : Type 0 where
  pub long : length x ≡ a
  pub is : b ≡ x ++ replicate n 0

module _ {x : List ℕ} {a n : ℕ} {b : List ℕ} (h : Front x a n b) where
  pub front_length : length b ≡ a + n
  front_length = ap length h.is ∙ length-append x (replicate n 0) ∙ omega (arith, h.long, length-replicate {A = ℕ} n 0)

  before : take a b ≡ x
  before = ap (take a) h.is ∙ take_at x (replicate n 0) a h.long

  behind : drop a b ≡ replicate n 0
  behind = ap (drop a) h.is ∙ drop_at x (replicate n 0) a h.long

  module _ (k : ℕ) (room : k ≤ n) where
    later : drop k (drop a b) ≡ replicate (n - k) 0
    later = ap (drop k) behind ∙ drop_zeros k n room

    -- what is put behind x
    put : (ys : List ℕ) → length ys ≡ k → (d : List ℕ) → d ≡ (x ++ ys) ++ replicate (n - k) 0 → Front (x ++ ys) (a + k) (n - k) d
    put ys l d e = record { long = length-append x ys ∙ omega (arith, h.long); is = e }

    -- a number put there through a lent part
    pub number_put : (v : ℕ) (ys : List ℕ) → ys ≡ big_endian (length (take k (drop a b))) v
        → Front (x ++ big_endian k v) (a + k) (n - k) (take a b ++ (ys ++ drop k (drop a b)))
    number_put v ys e =
        let N = big_endian k v in
        let part : length (take k (drop a b)) ≡ k =
        ap (λ (l : List ℕ). length (take k l)) behind ∙ length-take-le k (replicate n 0) (rw length-replicate room) in
        put N (length_big_endian k v) (take a b ++ (ys ++ drop k (drop a b)))
        ((λ i. before i ++ ((e ∙ ap (λ (j : ℕ). big_endian j v) part) i ++ later i)) ∙ sym (append_assoc x N (replicate (n - k) 0)))

    -- a block put there
    pub block_put_lem : (ys : List ℕ) → length ys ≡ k → (d : List ℕ) → d ≡ paste b a ys k → Front (x ++ ys) (a + k) (n - k) d
    block_put_lem ys l d e =
        put ys l d
        (e
        ∙ (λ i. (before i ++ ap (λ (j : ℕ). take j ys) (sym l) i) ++ sym (drop-drop k a b) i)
        ∙ (λ i. (x ++ take-length ys i) ++ later i))
