-- The loop adds the rows from the last to the first.
use native.Mathlib.Omega.{arith}
use Rattle.lbox.proofs.Matrix.{times_down, times_none, times_room}
use Rattle.lbox.proofs.times.Goals as goal

pub loop-i-init : goal.loop-i-init
loop-i-init c =
    times_none c.args.m 16 c.args.x (omega arith)

pub overflow_mul-product : goal.overflow_mul-product
overflow_mul-product c =
    omega (arith, c.loop-i.invariant, times_room c.args.m c.loop-i.i c.args.x (omega arith) (omega arith))

pub overflow_add-product : goal.overflow_add-product
overflow_add-product c =
    omega (arith, c.loop-i.invariant, times_room c.args.m c.loop-i.i c.args.x (omega arith) (omega arith))

pub loop-i-preserved : goal.loop-i-preserved
loop-i-preserved c =
    cc (times_down c.args.m c.loop-i.i c.args.x (omega arith) (omega arith))
