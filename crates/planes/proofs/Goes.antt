-- Ways of the 64 states one after the other.
use mathlib.Core.Path.{◌≡◌, ap, ◌∙◌}
use mathlib.Core.List.{List}
use Prim.Native.Nat.{ℕ, ◌<◌}
use Rattle.planes.specs.Planes.{lane, Goes}

-- one way, then another
pub goes_then : {g h : ℕ → List ℕ → List ℕ} {x y z : List (List ℕ)} → Goes g x y → Goes h y z → Goes (λ b w. h b (g b w)) x z
goes_then {h = h} p q = record { shape = q.shape; lanes = λ b l. q.lanes b l ∙ ap (h b) (p.lanes b l) }

-- a way given otherwise
pub goes_as : {g h : ℕ → List ℕ → List ℕ} {x y : List (List ℕ)}
    → Goes g x y → ((b : ℕ) → b < 64 → (w : List ℕ) → g b w ≡ h b w) → Goes h x y
goes_as {x = x} p e = record { shape = p.shape; lanes = λ b l. p.lanes b l ∙ e b l (lane x b) }
