-- The part from the place on has room for every digit.
use mathlib.Core.Path.{◌≡◌, ap, ◌∙◌, subst}
use mathlib.Core.List.{List}
use Prim.Native.Nat.{ℕ, ◌+◌, ◌-◌, ◌^◌, ◌<◌, ◌≤◌}
use native.Mathlib.Omega.{arith}
use lib.ListN.{length, take, drop, length-drop}
use Rattle.decimal.specs.Decimal.{digits, digits_within, AtStart}
use Rattle.decimal.proofs.Digits.{digits_u64, digits_within_all}
use Rattle.bits.proofs.Lists.{part_rest}
use Rattle.check_book.proofs.Lines.{at_place}
use Rattle.check_book.proofs.put_number.Goals as goal

-- what was written there is all the digits
whole : (at n : ℕ) (d y : List ℕ) (r : ℕ) → n < 2 ^ 64 → at + 20 ≤ length d
    → AtStart (digits_within (length (take (length d - at) (drop at d))) n) (take (length d - at) (drop at d)) y r
    → AtStart (digits n) (take (length d - at) (drop at d)) y r
whole at n d y r fits room w =
    let part : List ℕ = take (length d - at) (drop at d) in
    let long : length part ≡ length d - at = ap length (part_rest at d) ∙ length-drop at d in
    subst (λ (s : List ℕ). AtStart s part y r) (digits_within_all (length part) n (omega (arith, digits_u64 n fits))) w

pub returns-clause-behind : goal.returns-clause-behind
returns-clause-behind c =
    let a = c.args in
    let w = whole a.at a.n a.out.now c.put.new.out c.put.result c.ranges.n.fits c.requires c.put.ensures in
    at_place a.at (digits a.n) a.out.now c.put.new.out (a.at + c.put.result) w.bytes (ap (λ (k : ℕ). a.at + k) w.count)

pub returns-clause-upper_bound : goal.returns-clause-upper_bound
returns-clause-upper_bound c =
    let a = c.args in
    let w = whole a.at a.n a.out.now c.put.new.out c.put.result c.ranges.n.fits c.requires c.put.ensures in
    omega (arith, w.count, digits_u64 a.n c.ranges.n.fits)
