-- The loop has done i of the n turns.
use Rattle.rounds.specs.Cipher.{parts}
use Rattle.state.specs.State.{rows_of}
use Rattle.tweakey.specs.Schedule.{tweakeys_in}
use Rattle.steps.proofs.Turns.{SoFar}
use Rattle.steps.proofs.steps.Given as goal

abbrev pub invariant-loop-i : goal.invariant-loop-i
invariant-loop-i g l =
    let k = g.W.Way.cipher l.way in
    SoFar g.W.Way.ahead (parts k) (tweakeys_in k l.h) l.s l.n l.i (rows_of l.initial.y) (rows_of l.y)
