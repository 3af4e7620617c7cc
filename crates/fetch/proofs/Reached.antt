-- The walk over units that were written: the place where it ends.
use Rattle.parser.specs.declared.frame.Frame.TheVariants.{Close, Unit}
use Rattle.std.specs.Prelude.{Ok}
use mathlib.Core.Path.{◌≡◌, refl, sym, ap, ◌∙◌}
use mathlib.Core.List.{List, [], ◌∷◌, ◌++◌, append_assoc}
use Prim.Native.Nat.{ℕ, zero, suc, ◌+◌, ◌-◌, ◌^◌, ◌≤◌, ◌<◌}
use native.Mathlib.Nat.{zero-add, add-zero}
use native.Mathlib.Omega.{arith}
use lib.ListN.{length, drop, length-append}
use lib.Seq.{drop_at, drop-drop}
use Rattle.bits.specs.Bytes.{Bytes}
use Rattle.suites.specs.declared.suite.Suite.{Suite}
use Rattle.fields.specs.Each.{EachFrom, none_from, more_from}
use Rattle.fields.specs.Kind.{Kind, WellFormed}
use Rattle.fields.specs.Unit.{BookUnit, Allowed, unit_text}
use Rattle.fields.proofs.Details.{length_details_of}
use Rattle.fields.proofs.Texts.{length_unit_text}
use Rattle.format.specs.Layout.{unit_bytes, units_bytes}
use Rattle.format.proofs.Lengths.{length_unit_bytes}
use Rattle.parser.specs.Frame.{most_units, frame_at}
use Rattle.walk.specs.declared.Place.{Place}
use Rattle.kinds.specs.Lengths.{frame_length}
use Rattle.walk.specs.Walk.{next_place, first_place, walk_on, walk_to}
use Rattle.walk.proofs.Places.{walk_step}
use Rattle.fetch.proofs.Written.{unit_frame_lem}

-- at a close the walk stays, however many steps are left
walk_stays : (kind : Kind) (k : ℕ) (p : Place) (s : List ℕ) → frame_at kind p.number (drop p.at s) ≡ Ok Close → walk_on kind k p s ≡ p
unfolding walk_on
walk_stays kind zero p s e = refl
walk_stays kind (suc k) p s e = walk_step kind s k p (Ok Close) e

module _ (kind : Kind) (suite : Suite) (key : List ℕ) (number : ℕ) where
  -- the place behind units that stand at a place
  abbrev past_units : Place → List BookUnit → Place
  past_units p us = record { number = p.number + length us; at = p.at + length (units_bytes kind suite key number p.number us) }

  -- and behind those with which a book begins
  abbrev pub end_place : List BookUnit → Place
  end_place us = record { number = length us; at = length (units_bytes kind suite key number 0 us) }

  pub unit_length_lem : (n : ℕ) (u : BookUnit) → Allowed kind n u
      → length (unit_bytes kind suite key number n u) ≡ frame_length kind (length (unit_text u.source u.target))
  unit_length_lem n u a =
      length_unit_bytes kind suite key number n u (length_details_of kind u a.given) ∙ omega (arith, length_unit_text u.source u.target)

  past_more : (p : Place) (u : BookUnit) (us : List BookUnit) → Allowed kind p.number u
      → past_units (next_place kind (length (unit_text u.source u.target)) p) us ≡ past_units p (u ∷ us)
  unfolding units_bytes
  past_more p u us a =
      let n = p.number in
      let count : suc n + length us ≡ n + length (u ∷ us) = omega arith in
      let m = length (unit_text u.source u.target) in
      let b = unit_bytes kind suite key number n u in
      let rest = units_bytes kind suite key number (suc n) us in
      let place : p.at + frame_length kind m + length rest ≡ p.at + length (b ++ rest) = omega (arith, length-append b rest, unit_length_lem n u a) in
      λ i. record { number = count i; at = place i }

  module _ (fit : number < 2 ^ 64) (long : length key ≡ 16) (key_bytes : Bytes key) (wf : WellFormed kind) where
    -- past units, and then as many steps as are left
    walk-past : (k : ℕ) (p : Place) (us : List BookUnit) (rest s : List ℕ) → EachFrom (Allowed kind) p.number us
        → p.number + length us ≤ most_units → p.number + length us ≤ 256 ^ kind.number_bytes
        → drop p.at s ≡ units_bytes kind suite key number p.number us ++ rest
        → walk_on kind (length us + k) p s ≡ walk_on kind k (past_units p us) s
    unfolding units_bytes
    walk-past k p [] rest s none_from few fits e =
        let steps : 0 + k ≡ k = omega arith in
        let count : p.number ≡ p.number + 0 = omega arith in
        let place : p.at ≡ p.at + 0 = omega arith in
        λ i. walk_on kind (steps i) (record { number = count i; at = place i }) s
    walk-past k p (u ∷ us) rest s (more_from a each) few fits e =
        let n = p.number in
        let m = length (unit_text u.source u.target) in
        let q = next_place kind m p in
        let b = unit_bytes kind suite key number n u in
        let z = units_bytes kind suite key number (suc n) us ++ rest in
        let steps : length (u ∷ us) + k ≡ suc (length us + k) = omega arith in
        let here : drop p.at s ≡ b ++ z = e ∙ append_assoc b (units_bytes kind suite key number (suc n) us) rest in
        let there : drop q.at s ≡ z =
        sym (drop-drop (frame_length kind m) p.at s) ∙ ap (drop (frame_length kind m)) here ∙ drop_at b z (frame_length kind m) (unit_length_lem n u a) in
        ap (λ (j : ℕ). walk_on kind j p s) steps
        ∙ walk_step kind s (length us + k) p (Ok (Unit m))
        (ap (frame_at kind n) here ∙ unit_frame_lem kind suite key number fit long key_bytes n wf (omega arith) (omega arith) u a z)
        ∙ walk-past k q us rest s each (omega arith) (omega arith) there
        ∙ ap (λ (r : Place). walk_on kind k r s) (past_more p u us a)

    -- behind the opening fields: the place behind the units
    module _ (us : List BookUnit) (rest : List ℕ) (each : EachFrom (Allowed kind) 0 us) (few : length us ≤ most_units)
        (fits : length us ≤ 256 ^ kind.number_bytes) where
      walk-on : (k : ℕ) → walk_to kind (length us + k) (units_bytes kind suite key number 0 us ++ rest)
          ≡ walk_on kind k (end_place us) (units_bytes kind suite key number 0 us ++ rest)
      unfolding walk_to
      walk-on k =
          let units = units_bytes kind suite key number 0 us in
          let s = units ++ rest in
          walk-past k first_place us rest s each (omega arith) (omega arith) refl
          ∙ (λ i. walk_on kind k (record { number = zero-add (length us) i; at = zero-add (length units) i }) s)

      pub walk_ends : walk_to kind (length us) (units_bytes kind suite key number 0 us ++ rest) ≡ end_place us
      unfolding walk_on
      walk_ends = ap (λ (k : ℕ). walk_to kind k (units_bytes kind suite key number 0 us ++ rest)) (sym (add-zero (length us))) ∙ walk-on 0

      -- a close stands there, and the walk was to go further
      pub walk_closes : frame_at kind (length us) rest ≡ Ok Close → (k : ℕ) → length us ≤ k
          → walk_to kind k (units_bytes kind suite key number 0 us ++ rest) ≡ end_place us
      walk_closes e k h =
          let units = units_bytes kind suite key number 0 us in
          let steps : k ≡ length us + (k - length us) = omega arith in
          ap (λ (j : ℕ). walk_to kind j (units ++ rest)) steps
          ∙ walk-on (k - length us)
          ∙ walk_stays kind (k - length us) (end_place us) (units ++ rest) (ap (frame_at kind (length us)) (drop_at units rest (length units) refl) ∙ e)
