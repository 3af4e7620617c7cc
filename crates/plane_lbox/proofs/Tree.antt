-- Xor networks, as trees of sums.
use Prim.Native.Nat.{ℕ, ◌%◌}
use lib.Bits.{bit_xor}

-- a plane, or the sum of two trees
pub data Tree : Type 0 where
  leaf : ℕ → Tree
  sum : Tree → Tree → Tree

-- a tree's value where plane j is f j; leaf j stands for plane j mod 16
abbrev pub eval : Tree → (ℕ → ℕ) → ℕ
eval (leaf j) f = f (j % 16)
eval (sum a b) f = bit_xor (eval a f) (eval b f)
