-- The loop adds the entries from the last to the first.
use Prim.Native.Nat.{◌/◌, ◌^◌}
use native.Mathlib.Omega.{arith}
use Rattle.lbox.proofs.Matrix.{dot_down, dot_none}
use Rattle.lbox.proofs.dot.Goals as goal

pub loop-j-init : goal.loop-j-init
loop-j-init c =
    dot_none c.args.row.now 16 (c.args.x / 2 ^ 16) (omega arith)

pub loop-j-preserved : goal.loop-j-preserved
loop-j-preserved c =
    cc (dot_down c.args.row.now c.loop-j.j c.args.x (omega arith) (omega arith))
