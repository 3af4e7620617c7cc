-- The loop has passed so many units, and the walk goes on from the place behind them.
use Rattle.parser.specs.declared.frame.Frame.TheVariants.{Unit}
use Rattle.std.specs.Prelude.{Option, Some, None, Ok}
use mathlib.Core.Path.{◌≡◌, refl, sym, ap, ◌∙◌}
use mathlib.Core.Bool.{true, false, ◌&&◌, and-eq-true_iff, and-true}
use Prim.Native.Nat.{ℕ, ◌+◌, ◌-◌, ◌≤◌, ◌<◌}
use native.Mathlib.Omega.{arith}
use borrow.Author.Rules.{rules}
use borrow.Author.Tests.{ltb-true, ltb-false, eq-eqb}
use lib.Dec.{eqb, ltb}
use lib.ListN.{length, take, drop}
use mathlib.Core.List.{List}
use Rattle.fields.specs.Kind.{Kind}
use Rattle.kinds.specs.Kind.{kind_of}
use Rattle.parser.specs.Frame.{frame_at, ciphertext_of}
use Rattle.parser.proofs.Frames.{unit_told}
use Rattle.bits.proofs.Lists.{part_rest}
use Rattle.walk.proofs.Places.{unit_of_lem, stops, unit_within, place_of, walk_from, turn_first, turn_last, turn}
use Rattle.walk.proofs.to.Goals as goal

-- the loop's test: `ahead` is 0, so that it asks only for the number
asked : (number k ahead : ℕ) → (ltb number k && eqb ahead 0) ≡ true → number < k
asked number k ahead e = ltb-true number k ((and-eq-true_iff (ltb number k) (eqb ahead 0)).0 e).0

ended : (number k ahead : ℕ) → ahead ≡ 0 → (ltb number k && eqb ahead 0) ≡ false → k ≤ number
ended number k ahead z e = ltb-false number k (rw (eq-eqb ahead 0 z, and-true) at e)

-- what was read at a place
read : (kind : Kind) (number at : ℕ) (o : Option ℕ) (s : List ℕ) → o ≡ ciphertext_of (frame_at kind number (take (length s - at) (drop at s)))
    → o ≡ ciphertext_of (frame_at kind number (drop at s))
read kind number at o s e = e ∙ ap (λ r. ciphertext_of (frame_at kind number r)) (part_rest at s)

-- a unit, where that is a length
unit : (kind : Kind) (number at m : ℕ) (s : List ℕ) → Some m ≡ ciphertext_of (frame_at kind number (take (length s - at) (drop at s)))
    → frame_at kind number (drop at s) ≡ Ok (Unit m)
unit kind number at m s e = unit_of_lem (frame_at kind number (drop at s)) m (read kind number at (Some m) s e)

pub loop-number-init : goal.loop-number-init
loop-number-init c = (search rules, search rules, turn_first (kind_of c.args.kind) c.args.k c.args.s.now, refl)

-- no unit: the walk ends here
pub returns-in_default : goal.returns-in_default
returns-in_default c =
    let l = c.loop-number in
    let kind = kind_of c.args.kind in
    let s = c.args.s.now in
    sym (stops (frame_at kind l.number (drop l.at s)) _ (place_of l.number l.at) (read kind l.number l.at None s c.in_default.ensures))
    ∙ sym (turn kind c.args.k l.number l.at s (asked l.number c.args.k l.ahead c.loop-number-test.true) (frame_at kind l.number (drop l.at s)) refl)
    ∙ l.invariant.2

pub unit_len-at-requires : goal.unit_len-at-requires
unit_len-at-requires c =
    let l = c.loop-number in
    let kind = kind_of c.args.kind in
    let s = c.args.s.now in
    let m = c.in-Some.m in
    let small = (unit_told kind l.number m (drop l.at s) (unit kind l.number l.at m s c.in-Some.ensures)).most in
    search rules

pub overflow_add-at : goal.overflow_add-at
overflow_add-at c =
    let l = c.loop-number in
    let kind = kind_of c.args.kind in
    let s = c.args.s.now in
    let m = c.in-Some.m in
    let room = unit_within kind s l.number l.at m l.invariant.1 (unit kind l.number l.at m s c.in-Some.ensures) in
    search rules

pub loop-number-preserved : goal.loop-number-preserved
loop-number-preserved c =
    let l = c.loop-number in
    let kind = kind_of c.args.kind in
    let s = c.args.s.now in
    let m = c.in-Some.m in
    let more = asked l.number c.args.k l.ahead c.loop-number-test.true in
    let there = unit kind l.number l.at m s c.in-Some.ensures in (
      omega arith,
      rw c.unit_len-at.ensures.is (unit_within kind s l.number l.at m l.invariant.1 there),
      ap (λ n. walk_from kind c.args.k (l.number + 1) (l.at + n) s) c.unit_len-at.ensures.is
          ∙ sym (turn kind c.args.k l.number l.at s more (Ok (Unit m)) there)
          ∙ l.invariant.2,
      c.read_ahead-ahead.ensures,
    )

pub returns : goal.returns
returns c =
    let l = c.loop-number in
    sym (turn_last (kind_of c.args.kind) c.args.k l.number l.at c.args.s.now
    (ended l.number c.args.k l.ahead l.invariant.3 c.loop-number-test.false))
    ∙ l.invariant.2
