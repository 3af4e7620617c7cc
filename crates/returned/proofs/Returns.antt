-- What a call returns to C is what its answer tells.
use mathlib.Core.Path.{◌≡◌, ap, ◌∙◌}
use mathlib.Core.List.{List}
use Prim.Native.Nat.{ℕ}
use Rattle.suites.specs.Told.{Told}
use Rattle.returned.specs.Returned.{or_old, Returns}

-- of two answers that tell the same
pub returns_as : {t t' : Told} {old : List ℕ} {r : ℕ} {new : List ℕ} → t ≡ t' → Returns t old r new → Returns t' old r new
returns_as {t} {t'} {old} e h =
    record { number = h.number ∙ ap (λ (x : Told). x.number) e; values = h.values ∙ ap (λ (x : Told). or_old x.values old) e }
