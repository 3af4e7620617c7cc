-- A rule of every number below a bound, proved by one test that antt computes.
use mathlib.Core.Path.{◌≡◌}
use mathlib.Core.Bool.{Bool, true, false, ◌&&◌}
use Prim.Native.Nat.{ℕ, zero, suc, ◌<◌}
use native.Mathlib.Decide.{ℕ_discrete}
use native.Mathlib.Omega.{arith}
use lib.Dec.{T}

-- the test passes at each number below n
abbrev pub all : ℕ → (ℕ → Bool) → Bool
all zero f = true
all (suc n) f = f n && all n f

pub and_left : (a b : Bool) → T (a && b) → T a
and_left true b t = tt
and_left false b t = t

pub and_right : (a b : Bool) → T (a && b) → T b
and_right true b t = t
and_right false b t = absurd t

pub all_at : (n : ℕ) (f : ℕ → Bool) → T (all n f) → (k : ℕ) → k < n → T (f k)
all_at zero f t k h = absurd (omega arith)
all_at (suc n) f t k h = last (ℕ_discrete k n) (λ l. all_at n f (and_right (f n) (all n f) t) k l)
  where
    last : Dec (k ≡ n) → (k < n → T (f k)) → T (f k)
    last (yes e) r = rw e (and_left (f n) (all n f) t)
    last (no d) r = r (omega arith)
