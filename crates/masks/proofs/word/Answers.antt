-- The loop has added the products of the first i columns.
use mathlib.Core.Path.{refl, sym, ap, ◌∙◌}
use Prim.Native.Nat.{ℕ}
use native.Mathlib.Numerals.{add-one}
use lib.Bits.{bit_xor}
use Rattle.masks.specs.Products.{sum, sum_of}
use Rattle.masks.proofs.word.Goals as goal

pub loop-i-init : goal.loop-i-init
unfolding sum
loop-i-init c =
    refl

pub loop-i-preserved : goal.loop-i-preserved
unfolding sum
loop-i-preserved c =
    let a = c.args in
    (λ j. bit_xor (c.loop-i.invariant j) (c.times-sum.ensures j)) ∙ sym (ap (λ (n : ℕ). sum_of n a.columns a.x) (add-one c.loop-i.i))
