-- Bytes put behind those that were put before.
use mathlib.Core.Path.{◌≡◌, sym, ap, ◌∙◌}
use mathlib.Core.List.{List, ◌++◌, append_assoc, append-nil}
use Prim.Native.Nat.{ℕ, ◌+◌, ◌-◌, ◌≤◌}
use native.Mathlib.Omega.{arith}
use lib.ListN.{length, take, drop}
use lib.Seq.{take_at, drop_at, drop-drop}
use Rattle.bits.proofs.Lists.{part_rest}
use Rattle.sums.proofs.Sums.{part_none}

-- q, which is p, was copied to the start of d
pub copied : (at : ℕ) (p q d x : List ℕ) → length p ≡ at → q ≡ p → x ≡ q ++ drop (length q) d → x ≡ p ++ drop at d
copied at p q d x long same is =
    is ∙ ap (λ (l : List ℕ). l ++ drop (length l) d) same ∙ ap (λ (n : ℕ). p ++ drop n d) long

-- p was put at the start of d, which gave x
module _ (at : ℕ) (p d x : List ℕ) (long : length p ≡ at) (is : x ≡ p ++ drop at d) where
  pub front : take at x ≡ p
  front = ap (take at) is ∙ take_at p (drop at d) at long

  rest : drop at x ≡ drop at d
  rest = ap (drop at) is ∙ drop_at p (drop at d) at long

  pub later : (n : ℕ) → at ≤ n → drop n x ≡ drop n d
  later n h =
      let k : at + (n - at) ≡ n = omega arith in
      ap (λ (i : ℕ). drop i x) (sym k)
      ∙ sym (drop-drop (n - at) at x)
      ∙ ap (drop (n - at)) rest
      ∙ drop-drop (n - at) at d
      ∙ ap (λ (i : ℕ). drop i d) k

  -- what is made of the part behind p
  pub of_part : {A : Type 0} (g : List ℕ → A) (r : A) → r ≡ g (take (length x - at) (drop at x)) → r ≡ g (drop at d)
  of_part g r e = e ∙ ap g (part_rest at x ∙ rest)

  -- f makes the bytes that are put at that part's start, in place of n
  pub behind : (n end : ℕ) → at + n ≡ end → (f : List ℕ → List ℕ) (y : List ℕ)
      → y ≡ f (take (length x - at) (drop at x)) ++ drop n (take (length x - at) (drop at x))
      → take at x ++ (y ++ drop (length x - at) (drop at x)) ≡ (p ++ f (drop at d)) ++ drop end d
  behind n end h f y e =
      let put : y ≡ f (drop at d) ++ drop end d =
      of_part (λ q. f q ++ drop n q) y e ∙ ap (λ (z : List ℕ). f (drop at d) ++ z) (drop-drop n at d ∙ ap (λ (i : ℕ). drop i d) h) in
      (λ j. front j ++ (put j ++ part_none at x j))
      ∙ ap (λ (z : List ℕ). p ++ z) (append-nil (f (drop at d) ++ drop end d))
      ∙ sym (append_assoc p (f (drop at d)) (drop end d))
