-- The loop has made the first i tweaks.
use mathlib.Core.Path.{refl}
use mathlib.Core.List.{List}
use Prim.Native.Nat.{ℕ, ◌+◌}
use native.Mathlib.Omega.{arith}
use Rattle.blockwise.specs.Blocks.{strung}
use Rattle.calls.specs.Tweak.{tweak}
use Rattle.calls.proofs.Tweaks.{length_tweak}
use Rattle.tweak.proofs.Fills.{strung_more, tweak_made}
use Rattle.tweak.proofs.fill.Goals as goal

pub loop-i-init : goal.loop-i-init
unfolding strung
loop-i-init c = refl

pub loop-i-preserved : goal.loop-i-preserved
loop-i-preserved c =
    let a = c.args in
    let g : ℕ → List ℕ = λ j. tweak a.nonce.now a.mark (a.first + j) in
    strung_more g (λ j. length_tweak a.nonce.now a.mark (a.first + j) (omega arith)) a.tweaks.now c.loop-i.i
    c.loop-i.invariant (tweak_made a.nonce.now a.mark (a.first + c.loop-i.i) c.based-base.ensures) c.put_marked.ensures
