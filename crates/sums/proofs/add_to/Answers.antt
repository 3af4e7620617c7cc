-- The loop fills d from the front.
use mathlib.Core.Path.{◌≡◌, sym, ap, ◌∙◌}
use Prim.Native.Nat.{◌<◌}
use native.Mathlib.Omega.{arith}
use lib.Bits.{bit_xor}
use lib.ListN.{length, get_or, set}
use Rattle.bits.specs.Bytes.{added}
use Rattle.bits.proofs.Added.{length_added, get_or_added}
use Rattle.bits.proofs.Fronts.{front_more, front_next, front_whole}
use Rattle.sums.proofs.add_to.Goals as goal

pub loop-i-preserved : goal.loop-i-preserved
loop-i-preserved c =
    let h = c in
    let i = h.loop-i.i in
    let x = h.args.d.now in
    let y = h.args.b in
    let l : i < length (added x y) = omega (arith, length_added x y (omega arith)) in
    let read : get_or h.loop-i.d i 0 ≡ get_or x i 0 = ap (λ d. get_or d i 0) h.loop-i.invariant ∙ front_next x (added x y) i (omega arith) l in
    (λ j. set (h.loop-i.invariant j) i ((ap (λ v. bit_xor v (get_or y i 0)) read ∙ sym (get_or_added x y i (omega arith) (omega arith))) j))
    ∙ front_more x (added x y) i (omega arith) l

pub returns : goal.returns
returns c =
    let x = c.args.d.now in
    let y = c.args.b in
    let l : length (added x y) ≡ length x = length_added x y (omega arith) in
    c.loop-i.invariant ∙ front_whole x (added x y) c.loop-i.i (omega arith) (sym l)
