-- Bit equations: lists of bitwise operations on registers. At a width of k bits they go over rows of k columns, at one bit over one column.
use Rattle.std.specs.Prelude.{List, [], ◌∷◌, ℕ, ◌-◌, ◌^◌, get_or, set}
use Rattle.std.specs.Int.Bits.{bit_and, bit_or, bit_xor}
use Rattle.bits.specs.Bit.{bit, gather}

pub data Expr : Type 0 where
  reg : ℕ → Expr
  xor : Expr → Expr → Expr
  and : Expr → Expr → Expr
  or : Expr → Expr → Expr
  not : Expr → Expr

-- put the value of an expression into a register
pub data Instruction : Type 0 where
  put : ℕ → Expr → Instruction

-- an expression's value, at a width of k bits
abbrev pub eval : ℕ → Expr → List ℕ → ℕ
eval k (reg i) w = get_or w i 0
eval k (xor a b) w = bit_xor (eval k a w) (eval k b w)
eval k (and a b) w = bit_and (eval k a w) (eval k b w)
eval k (or a b) w = bit_or (eval k a w) (eval k b w)
eval k (not a) w = 2 ^ k - 1 - eval k a w

-- the instructions in their order
abbrev pub run : ℕ → List Instruction → List ℕ → List ℕ
run k [] w = w
run k (put d e ∷ p) w = run k p (set w d (eval k e w))

-- eight rows, then four temporaries
abbrev pub start : (ℕ → ℕ) → List ℕ
start f = f 0 ∷ f 1 ∷ f 2 ∷ f 3 ∷ f 4 ∷ f 5 ∷ f 6 ∷ f 7 ∷ 0 ∷ 0 ∷ 0 ∷ 0 ∷ []

-- the column that the equations make of the column c
abbrev pub outcome : List Instruction → ℕ → ℕ
outcome p c =
    let r : List ℕ = run 1 p (start (bit c)) in
    gather 8 (λ i. get_or r i 0)
