-- Bytes in a room that is 0 behind them.
use Rattle.std.specs.Prelude.{◌≡◌, List, ◌++◌, ℕ, ◌-◌, ◌≤◌, length, take, drop, replicate}
use Rattle.std.proofs.Common.{ap, sym, subst, ◌∙◌, take-append-drop, length-take-le}

-- its first n bytes say a room x of k bytes
pub room_behind : (k n : ℕ) (x : List ℕ) → n ≤ k → length x ≡ k → drop n x ≡ replicate (k - n) 0
    → (take n x ++ replicate (k - length (take n x)) 0 ≡ x) × (length (take n x) ≡ n)
room_behind k n x h long rest =
    let e : length (take n x) ≡ n = length-take-le n x (subst (λ (m : ℕ). n ≤ m) (sym long) h) in
    (ap (λ (m : ℕ). take n x ++ replicate (k - m) 0) e ∙ ap (λ (l : List ℕ). take n x ++ l) (sym rest) ∙ take-append-drop n x, e)
