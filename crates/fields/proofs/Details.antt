-- What a unit's header says besides its number.
use mathlib.Core.Path.{◌≡◌, sym, ◌∙◌}
use native.Mathlib.Omega.{arith}
use lib.ListN.{length, length-append}
use Rattle.fields.specs.Kind.{Kind}
use Rattle.fields.specs.Unit.{BookUnit, Given, details_of, details_length}
use Rattle.fields.proofs.Fields.{append_inj}

pub length_codes : (kind : Kind) (u : BookUnit) → length u.from ≡ kind.code_bytes → length u.to ≡ kind.code_bytes
    → length (details_of kind u) ≡ details_length kind
unfolding details_of
length_codes kind u f t = length-append u.from u.to ∙ omega (arith, f, t)

pub length_details_of : (kind : Kind) (u : BookUnit) → Given kind u → length (details_of kind u) ≡ details_length kind
length_details_of kind u g = length_codes kind u g.from_long g.to_long

-- with the same source and target it is one unit
pub unit_same : (kind : Kind) {u₁ u₂ : BookUnit} → Given kind u₁ → Given kind u₂ → details_of kind u₁ ≡ details_of kind u₂
    → u₁.source ≡ u₂.source → u₁.target ≡ u₂.target → u₁ ≡ u₂
unfolding details_of
unit_same kind {u₁} {u₂} g₁ g₂ d s t =
    let codes = append_inj u₁.from u₂.from {q₁ = u₁.to} {q₂ = u₂.to} (g₁.from_long ∙ sym g₂.from_long) d in
    λ i. record { from = codes.0 i; to = codes.1 i; source = s i; target = t i }
