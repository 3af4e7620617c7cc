-- The outcomes are copied, and the last one is added.
use mathlib.Core.Path.{◌≡◌, ap, ◌∙◌}
use mathlib.Core.List.{List, ◌++◌, append-nil}
use Prim.Native.Nat.{ℕ, ◌-◌, ◌*◌, ◌/◌}
use native.Mathlib.Omega.{arith}
use lib.ListN.{length, take, drop, drop_of_length-le}
use lib.Seq.{take_at, drop_at, length-take-le}
use Rattle.bits.specs.Bytes.{added}
use Rattle.bits.proofs.Lists.{part_rest}
use Rattle.blockwise.specs.Blocks.{block, strung}
use Rattle.sums.proofs.Sums.{part_none}
use Rattle.batch.proofs.Put.{front_strung}
use Rattle.batch.proofs.Texts.{placed_none, placed_is}
use Rattle.batch.proofs.text.place.Goals as goal

pub returns-then-n-eq0 : goal.returns-then-n-eq0
returns-then-n-eq0 c =
    let a = c.args in
    placed_none a.s.now a.outcomes.now c.if-n-eq0.true

pub returns : goal.returns
returns c =
    let a = c.args in
    let s = a.s.now in
    let o = a.outcomes.now in
    let k = (length s - 1) / 16 in
    let at = 16 * k in
    let R = c.copy.new.d in
    let long : length (take at s) ≡ at = length-take-le at s (omega arith) in
    let made : R ≡ take at o =
    c.copy.ensures
    ∙ ap (λ (r : List ℕ). take at o ++ r) (drop_of_length-le (take at s) {i = length (take at o)} (omega (arith, long, length-take-le at o (omega arith))))
    ∙ append-nil (take at o) in
    let lr : length R ≡ at = ap length made ∙ length-take-le at o (omega arith) in
    let W = R ++ drop at s in
    let left : take (length W - at) (drop at W) ≡ drop at s = part_rest at W ∙ drop_at R (drop at s) at lr in
    let new : c.add_to.new.d ≡ added (drop at s) (block o k) =
    c.add_to.ensures ∙ (λ j. added (left j) (c.block_at.ensures j)) in
    (λ j. (take_at R (drop at s) at lr ∙ made ∙ front_strung k o (omega arith)) j ++ (new j ++ part_none at W j))
    ∙ ap (λ (l : List ℕ). strung k (block o) ++ l) (append-nil (added (drop at s) (block o k)))
    ∙ placed_is s o k (omega arith)
