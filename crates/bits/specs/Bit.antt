-- The bits of a number. A bit is the number 0 or 1.
use Rattle.std.specs.Prelude.{ℕ, zero, suc, ◌+◌, ◌*◌, ◌/◌, ◌%◌, ◌^◌}

-- bit j of n, bit 0 lowest
unfoldable pub bit : ℕ → ℕ → ℕ
bit n j = n / 2 ^ j % 2

-- the number below 2 ^ k whose bit j is f j
unfoldable pub gather : ℕ → (ℕ → ℕ) → ℕ
gather zero f = 0
gather (suc k) f = gather k (λ j. f (suc j)) * 2 + f 0
