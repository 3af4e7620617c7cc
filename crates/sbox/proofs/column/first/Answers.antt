-- Each row's bit is added to twice those of the rows behind it.
use mathlib.Core.Path.{sym, ◌∙◌}
use Prim.Native.Nat.{◌+◌, ◌*◌}
use native.Mathlib.Nat.{zero-add}
use lib.ListN.{get_or}
use Rattle.bits.specs.Bit.{bit, gather}
use Rattle.sbox.specs.Sbox
use Rattle.sbox.proofs.column.first.Goals as goal

pub returns : goal.returns
unfolding Sbox.column gather
returns c =
    let row = get_or c.args.w 7 0 in
    let e7 = c.first_bit.ensures.0 ∙ sym (zero-add (bit row 0)) in
    let e6 = c.first_bit-2.ensures.0 in
    let e5 = c.first_bit-3.ensures.0 in
    let e4 = c.first_bit-4.ensures.0 in
    let e3 = c.first_bit-5.ensures.0 in
    let e2 = c.first_bit-6.ensures.0 in
    let e1 = c.first_bit-7.ensures.0 in
    let e0 = c.first_bit-8.ensures.0 in
    λ k. ((((((e7 k * 2 + e6 k) * 2 + e5 k) * 2 + e4 k) * 2 + e3 k) * 2 + e2 k) * 2 + e1 k) * 2 + e0 k
