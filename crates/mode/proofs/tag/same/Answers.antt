-- The loop has compared the first i bytes.
use mathlib.Core.Path.{◌≡◌, sym, ap, ◌∙◌}
use mathlib.Core.Bool.{◌&&◌}
use native.Mathlib.Numerals.{add-one}
use native.Mathlib.Omega.{arith}
use lib.Dec.{eqb}
use lib.ListN.{get_or}
use Rattle.bits.specs.Bytes.{same_bytes}
use Rattle.sums.proofs.Sums.{differs_more}
use Rattle.mode.proofs.tag.same.Goals as goal

pub loop-i-preserved : goal.loop-i-preserved
loop-i-preserved c =
    let i = c.loop-i.i in
    let x = c.args.a in
    let y = c.args.b in
    differs_more c.loop-i.d (get_or x i 0) (get_or y i 0)
    ∙ ap (λ t. t && eqb (get_or x i 0) (get_or y i 0)) c.loop-i.invariant
    ∙ ap (λ n. same_bytes n x y) (sym (add-one i))

pub returns : goal.returns
returns c =
    let e : c.loop-i.i ≡ 16 = omega arith in
    c.loop-i.invariant ∙ ap (λ n. same_bytes n c.args.a c.args.b) e
