-- A network that is right at each single bit multiplies every row that its planes hold: both are linear.
use mathlib.Core.Path.{◌≡◌, refl, sym, ap, ◌∙◌}
use mathlib.Core.Bool.{Bool}
use mathlib.Core.List.{List}
use Prim.Native.Nat.{ℕ, ◌%◌, ◌^◌, ◌<◌}
use native.Mathlib.Omega.{arith}
use lib.Bits.{xor_lt}
use lib.Dec.{T, eqb, eqb→eq}
use lib.ListN.{get_or}
use Rattle.bits.specs.Bit.{bit, gather}
use Rattle.bits.specs.Table.{tab}
use Rattle.bits.proofs.Bits.{bit_lt, bit_of_xor, bit_of_zero, bit_ext, bit_gather, gather_lt, xor_assoc, xor_left_comm}
use Rattle.bits.proofs.Lists.{tab_ext}
use Rattle.bits.proofs.Tests.{all, all_at}
use Rattle.lbox.specs.Lbox.{times}
use Rattle.lbox.proofs.Matrix.{Linear, linear_ext, times_linear}
use Rattle.planes.specs.Planes.{row_at}
use Rattle.planes.proofs.Rows.{row_lt, row_bit}
use Rattle.plane_lbox.specs.Network.{times_at}
use Rattle.plane_lbox.proofs.Tree.{Tree, leaf, sum, eval}

-- the trees give the bits of the product at each single bit
abbrev pub right : List Tree → List (List ℕ) → Bool
right ts m = all 16 (λ i. all 16 (λ j. eqb (eval (get_or ts i (leaf 0)) (bit (2 ^ j))) (bit (times m (2 ^ j)) i)))

eval_lt : (t : Tree) (k : ℕ) (f : ℕ → ℕ) → ((j : ℕ) → f j < 2 ^ k) → eval t f < 2 ^ k
eval_lt (leaf j) k f h = h (j % 16)
eval_lt (sum a b) k f h = xor_lt k (eval a f) (eval b f) (eval_lt a k f h) (eval_lt b k f h)

eval_ext : (t : Tree) (f g : ℕ → ℕ) → ((j : ℕ) → j < 16 → f j ≡ g j) → eval t f ≡ eval t g
eval_ext (leaf j) f g e = e (j % 16) (omega arith)
eval_ext (sum a b) f g e = cc (eval_ext a f g e, eval_ext b f g e)

-- bit b of a tree's value is the tree's value of the bits b
eval_bit : (t : Tree) (f : ℕ → ℕ) (b : ℕ) → bit (eval t f) b ≡ eval t (λ j. bit (f j) b)
eval_bit (leaf j) f b = refl
eval_bit (sum s t) f b = bit_of_xor (eval s f) (eval t f) b ∙ cc (eval_bit s f b, eval_bit t f b)

eval_linear : (t : Tree) → Linear (λ x. eval t (bit x))
eval_linear (leaf j) = record { none = bit_of_zero (j % 16); sum = λ x y. bit_of_xor x y (j % 16) }
eval_linear (sum s t) =
    let l : Linear (λ x. eval s (bit x)) = eval_linear s in
    let r : Linear (λ x. eval t (bit x)) = eval_linear t in
    record { none = rw (l.none, r.none); sum = λ x y. rw (l.sum x y, r.sum x y) (simp (xor_assoc, xor_left_comm)) }

product_bit_linear : (m : List (List ℕ)) (i : ℕ) → Linear (λ x. bit (times m x) i)
product_bit_linear m i =
    let l : Linear (times m) = times_linear m in
    record {
      none = ap (λ (x : ℕ). bit x i) l.none ∙ bit_of_zero i;
      sum = λ x y. ap (λ (z : ℕ). bit z i) (l.sum x y) ∙ bit_of_xor (times m x) (times m y) i;
    }

module _ (m : List (List ℕ)) (ts : List Tree) (test : T (right ts m)) where
  -- tree i on the bits of one row is bit i of the product
  tree_is : (i : ℕ) → i < 16 → (x : ℕ) → x < 2 ^ 16 → eval (get_or ts i (leaf 0)) (bit x) ≡ bit (times m x) i
  tree_is i hi =
      let t : Tree = get_or ts i (leaf 0) in
      linear_ext (eval_linear t) (product_bit_linear m i) 16
      (λ j hj.
      eqb→eq (eval t (bit (2 ^ j))) (bit (times m (2 ^ j)) i)
      (all_at 16 (λ j. eqb (eval t (bit (2 ^ j))) (bit (times m (2 ^ j)) i))
      (all_at 16 (λ i. all 16 (λ j. eqb (eval (get_or ts i (leaf 0)) (bit (2 ^ j))) (bit (times m (2 ^ j)) i))) test i hi) j hj))

  module _ (k : ℕ) (r : List ℕ) (words : (j : ℕ) → get_or r j 0 < 2 ^ k) where
    plane-is : (i : ℕ) → i < 16 → eval (get_or ts i (leaf 0)) (λ j. get_or r j 0) ≡ gather k (λ b. bit (times m (row_at r b)) i)
    plane-is i hi =
        let t : Tree = get_or ts i (leaf 0) in
        let f : ℕ → ℕ = λ b. bit (times m (row_at r b)) i in
        let bits : (b : ℕ) → f b < 2 = λ b. bit_lt (times m (row_at r b)) i in
        bit_ext k (eval_lt t k (λ j. get_or r j 0) words) (gather_lt k f bits)
        (λ b hb.
        eval_bit t (λ j. get_or r j 0) b
        ∙ eval_ext t (λ j. bit (get_or r j 0) b) (bit (row_at r b)) (λ j h. sym (row_bit r b j h))
        ∙ tree_is i hi (row_at r b) (row_lt r b)
        ∙ sym (bit_gather k f bits b hb))

    -- the trees on planes of k bits are the product of every row that the planes hold
    pub network_is : tab 16 (λ i. eval (get_or ts i (leaf 0)) (λ j. get_or r j 0)) ≡ times_at k m r
    unfolding times_at
    network_is =
        tab_ext 16 (λ i. eval (get_or ts i (leaf 0)) (λ j. get_or r j 0)) (λ i. gather k (λ b. bit (times m (row_at r b)) i)) plane-is
