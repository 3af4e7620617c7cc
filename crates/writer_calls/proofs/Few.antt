-- A unit and a close have at most 1,024 cipher calls: what the limit of a writer's call total counts for each.
use mathlib.Core.Path.{◌≡◌, refl}
use mathlib.Core.Bool.{Bool, true, false, cond}
use mathlib.Core.List.{List, [], ◌∷◌}
use Prim.Native.Nat.{ℕ, suc, ◌+◌, ◌*◌, ◌≤◌}
use native.Mathlib.Omega.{arith}
use lib.ListN.{length, length-append}
use Rattle.suites.specs.declared.suite.Suite.{Suite}
use Rattle.fields.specs.Kind.{Kind, WellFormed}
use Rattle.fields.specs.Each.{EachFrom, none_from, more_from}
use Rattle.format.specs.Sealings.{
  Sealing,
  opening_fields,
  unit_header,
  close_header,
  unit_sealing,
  unit_sealings,
  close_sealing,
  sealing_calls,
  call_total,
}
use Rattle.fields.specs.Unit.{BookUnit, Allowed, details_of, details_length}
use Rattle.fields.proofs.Details.{length_details_of}
use Rattle.format.proofs.Lengths.{length_opening_fields, length_unit_header, length_close_header, length_sealing_calls}
use Rattle.fields.proofs.Texts.{range_told, length_unit_text}

module _ (kind : Kind) (formed : WellFormed kind) (suite : Suite) (number n : ℕ) where
  pub unit_calls_lem : (u : BookUnit) → length (details_of kind u) ≡ details_length kind → length u.source ≤ 4096 → length u.target ≤ 4096
      → length (sealing_calls (unit_sealing kind suite number n u)) ≤ 1024
  unfolding unit_sealing
  unit_calls_lem u d short less =
      omega (
        arith,
        length_sealing_calls (unit_sealing kind suite number n u),
        length-append (opening_fields suite number) (unit_header kind n (details_of kind u)),
        length_opening_fields suite number,
        length_unit_header kind n (details_of kind u),
        d,
        length_unit_text u.source u.target,
      )

  pub close_calls_lem : length (sealing_calls (close_sealing kind suite number n)) ≤ 1024
  unfolding close_sealing
  close_calls_lem =
      omega (
        arith,
        length_sealing_calls (close_sealing kind suite number n),
        length-append (opening_fields suite number) (close_header kind n),
        length_opening_fields suite number,
        length_close_header kind n,
      )

module _ (kind : Kind) (formed : WellFormed kind) (suite : Suite) (number : ℕ) where
  -- one sealing's share of the call total
  total-one : (s : Sealing) (ss : List Sealing) → call_total (s ∷ ss) ≡ length (sealing_calls s) + call_total ss
  unfolding call_total
  total-one s ss = omega (arith, length_sealing_calls s)

  total-none : call_total [] ≡ 0
  unfolding call_total
  total-none = refl

  -- of so many allowed units, and of a close or none
  pub units_calls : (n : ℕ) (us : List BookUnit) → EachFrom (Allowed kind) n us → call_total (unit_sealings kind suite number n us) ≤ 1024 * length us
  unfolding unit_sealings
  units_calls n [] none_from = omega (arith, total-none)
  units_calls n (u ∷ us) (more_from a each) =
      let range = range_told (length u.source) (length u.target) a.range in
      omega (
        arith,
        total-one (unit_sealing kind suite number n u) (unit_sealings kind suite number (suc n) us),
        unit_calls_lem kind formed suite number n u (length_details_of kind u a.given) range.1 range.2,
        units_calls (suc n) us each,
      )

  pub close_total : (n : ℕ) (closed : Bool) → call_total (cond closed (close_sealing kind suite number n ∷ []) []) ≤ 1024
  unfolding call_total
  close_total n true = omega (arith, length_sealing_calls (close_sealing kind suite number n), close_calls_lem kind formed suite number n)
  close_total n false = omega arith
