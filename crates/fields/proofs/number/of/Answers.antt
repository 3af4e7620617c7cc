-- The loop has the number of the first bytes.
use mathlib.Core.Path.{refl, ap, ◌∙◌}
use Prim.Native.Nat.{◌+◌, ◌*◌, ◌<◌}
use native.Mathlib.Omega.{arith}
use lib.ListN.{take, length-take}
use lib.Seq.{take_all}
use Rattle.bits.specs.Bytes.{Bytes, number_of}
use Rattle.bits.proofs.Bytes.{bytes_take}
use Rattle.fields.proofs.Reading.{number_fits, number_next, taken_min}
use Rattle.fields.proofs.number.of.Goals as goal

pub loop-b-init : goal.loop-b-init
unfolding number_of
loop-b-init c = refl

pub overflow_mul-v : goal.overflow_mul-v
overflow_mul-v c =
    let s = take c.min.result c.args.s.now in
    let bytes : Bytes s = bytes_take c.min.result c.args.s.now (record { fit = λ j. (c.type_inv.s j).fits }) in
    let few : c.loop-b.b-index < 8 = omega (arith, length-take c.min.result c.args.s.now) in
    record { fits = omega (arith, c.loop-b.invariant, number_fits s c.loop-b.b-index bytes few) }

pub overflow_add-v : goal.overflow_add-v
overflow_add-v c =
    let s = take c.min.result c.args.s.now in
    let bytes : Bytes s = bytes_take c.min.result c.args.s.now (record { fit = λ j. (c.type_inv.s j).fits }) in
    let few : c.loop-b.b-index < 8 = omega (arith, length-take c.min.result c.args.s.now) in
    record { fits = omega (arith, c.loop-b.invariant, number_fits s c.loop-b.b-index bytes few) }

pub loop-b-preserved : goal.loop-b-preserved
loop-b-preserved c =
    (λ i. c.loop-b.invariant i * 256 + c.from.ensures i) ∙ number_next (take c.min.result c.args.s.now) c.loop-b.b-index (omega arith)

pub returns : goal.returns
returns c =
    let s = c.args.s.now in
    c.loop-b.invariant
    ∙ ap number_of (take_all c.loop-b.b-index (take c.min.result s) (omega arith) ∙ ap (λ n. take n s) c.min.ensures ∙ taken_min 8 s)
