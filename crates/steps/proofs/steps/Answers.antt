-- The loop has done i of the n turns.
use native.Mathlib.Omega.{arith}
use Rattle.rounds.specs.Cipher.{parts}
use Rattle.state.specs.State.{rows_of}
use Rattle.tweakey.specs.Schedule.{tweakeys_in}
use Rattle.steps.proofs.Turns.{none_done, one_more, all_done}
use Rattle.steps.proofs.steps.Goals as goal

pub loop-i-init : goal.loop-i-init
loop-i-init g c =
    let a = c.args in
    let k = g.W.Way.cipher a.way.now in
    none_done g.W.Way.ahead (parts k) (tweakeys_in k a.h) a.s a.n (rows_of a.x)

pub loop-i-preserved : goal.loop-i-preserved
loop-i-preserved g c =
    one_more c.loop-i.invariant (omega arith) (rw c.is_ahead.ensures at c.at-done.ensures) c.step-y.ensures

pub returns : goal.returns
returns g c =
    all_done c.loop-i.invariant (omega arith)
