-- What the operators of a word compute: those on its bits, at its width.
use Rattle.std.specs.Prelude.{◌≡◌, ⊤, ℕ, ◌-◌, ◌^◌}
use Rattle.std.specs.Int.Bits.{bit_and, bit_or, bit_xor}

-- `and`, `or`, `xor` and `not` may be called on any words, and their results have the bits, where a word of W has its value by `number`
pub record Bitwise
    {W : Type 0}
    (width : ℕ)
    (number : W → ℕ)
    (can_and can_or can_xor : W → W → Type 0)
    (can_not : W → Type 0)
    (and or xor : W → W → W → Type 0)
    (not : W → W → Type 0)
    : Type 0 where
  pub may_and : (x y : W) → can_and x y
  pub may_or : (x y : W) → can_or x y
  pub may_xor : (x y : W) → can_xor x y
  pub may_not : (x : W) → can_not x
  pub and_is : {x y r : W} → and x y r → number r ≡ bit_and (number x) (number y)
  pub or_is : {x y r : W} → or x y r → number r ≡ bit_or (number x) (number y)
  pub xor_is : {x y r : W} → xor x y r → number r ≡ bit_xor (number x) (number y)
  pub not_is : {x r : W} → not x r → number r ≡ 2 ^ width - 1 - number x

-- so of numbers of a width, each its own value
pub numbers : (width : ℕ)
    → Bitwise width (λ x. x) (λ _ _. ⊤) (λ _ _. ⊤) (λ _ _. ⊤) (λ _. ⊤)
    (λ x y r. r ≡ bit_and x y) (λ x y r. r ≡ bit_or x y) (λ x y r. r ≡ bit_xor x y) (λ x r. r ≡ 2 ^ width - 1 - x)
numbers width =
    record {
      may_and = λ x y. tt;
      may_or = λ x y. tt;
      may_xor = λ x y. tt;
      may_not = λ x. tt;
      and_is = λ e. e;
      or_is = λ e. e;
      xor_is = λ e. e;
      not_is = λ e. e;
    }
