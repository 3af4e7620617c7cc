-- What the makers of tweaks need, and what they leave: the contracts of `text_tweaks` and `header_tweaks`.
use Rattle.std.specs.Prelude.{List, ◌++◌, ℕ, ◌+◌, ◌*◌, ◌^◌, ◌≤◌, length, drop}
use Rattle.blockwise.specs.Blocks.{strung}

-- for the k numbers from `first` on: a nonce of at most 15 bytes, room for the tweaks, and each number in 32 bits
pub record Makeable (nonce : List ℕ) (first k : ℕ) (lent : List ℕ) : Type 0 where
  pub short : length nonce ≤ 15
  pub room : 16 * k ≤ length lent
  pub fits : first + k ≤ 2 ^ 32

-- the tweak of each number, one behind the other; the bytes behind them stay
abbrev pub made_in : (ℕ → List ℕ) → ℕ → ℕ → List ℕ → List ℕ
made_in tweak_of first k lent = strung k (λ i. tweak_of (first + i)) ++ drop (16 * k) lent
