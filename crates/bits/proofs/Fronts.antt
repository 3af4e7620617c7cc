-- A string that a loop fills from the front: the first i elements are those of s, the others still those of d.
use mathlib.Core.Path.{◌≡◌, sym, ap, ◌∙◌}
use mathlib.Core.List.{List, ◌++◌, append-nil}
use Prim.Native.Nat.{ℕ, zero, suc, ◌+◌, ◌-◌, ◌≤◌, ◌<◌}
use native.Mathlib.Nat.{le_of_eq}
use native.Mathlib.Numerals.{add-one}
use native.Mathlib.Omega.{arith}
use lib.ListN.{length, get_or, set, take, drop, replicate, length-append, length-drop, drop_of_length-le}
use lib.Seq.{get_or_at, set_at, take-suc, take-length, drop-cons, append_snoc, length-take-le}

module _ (d s : List ℕ) (i : ℕ) (hd : i < length d) (hs : i < length s) where
  -- one element more
  pub front_more : set (take i s ++ drop i d) i (get_or s i 0) ≡ take (i + 1) s ++ drop (i + 1) d
  front_more =
      ap (λ (r : List ℕ). set (take i s ++ r) i (get_or s i 0)) (drop-cons d i 0 hd)
      ∙ set_at (take i s) (get_or d i 0) (drop (suc i) d) (get_or s i 0) i (length-take-le i s (omega arith))
      ∙ sym (append_snoc (take i s) (get_or s i 0) (drop (suc i) d))
      ∙ ap (λ (r : List ℕ). r ++ drop (suc i) d) (sym (take-suc s i 0 hs))
      ∙ ap (λ (k : ℕ). take k s ++ drop k d) (sym (add-one i))

  -- the next element is still d's
  pub front_next : get_or (take i s ++ drop i d) i 0 ≡ get_or d i 0
  front_next =
      ap (λ (r : List ℕ). get_or (take i s ++ r) i 0) (drop-cons d i 0 hd)
      ∙ get_or_at (take i s) (get_or d i 0) (drop (suc i) d) 0 i (length-take-le i s (omega arith))

pub front_long : (d s : List ℕ) (i : ℕ) → i ≤ length d → i ≤ length s → length (take i s ++ drop i d) ≡ length d
front_long d s i hd hs = length-append (take i s) (drop i d) ∙ omega (arith, length-take-le i s hs, length-drop i d)

-- all of s is there
pub front_all : (d s : List ℕ) (i : ℕ) → i ≡ length s → take i s ++ drop i d ≡ s ++ drop (length s) d
front_all d s i e = ap (λ (k : ℕ). take k s ++ drop k d) e ∙ ap (λ (r : List ℕ). r ++ drop (length s) d) (take-length s)

-- and nothing of d is left
pub front_whole : (d s : List ℕ) (i : ℕ) → i ≡ length s → length d ≡ length s → take i s ++ drop i d ≡ s
front_whole d s i e l =
    front_all d s i e ∙ ap (λ (r : List ℕ). s ++ r) (drop_of_length-le d {i = length s} (le_of_eq l)) ∙ append-nil s

pub drop_zeros : (n k : ℕ) → n ≤ k → drop {A = ℕ} n (replicate k 0) ≡ replicate (k - n) 0
drop_zeros zero k h =
    let e : k ≡ k - 0 = omega arith in
    ap (λ (j : ℕ). replicate j 0) e
drop_zeros (suc n) zero h = absurd (omega arith)
drop_zeros (suc n) (suc k) h =
    let e : k - n ≡ suc k - suc n = omega arith in
    drop_zeros n k (omega arith) ∙ ap (λ (j : ℕ). replicate j 0) e
