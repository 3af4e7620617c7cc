-- The loop has done i of the n turns: of any planes from which those before the loop came.
use mathlib.Core.Path.{◌≡◌}
use native.Mathlib.Omega.{arith}
use Rattle.plane_steps.proofs.Added.{turns_none, turns_more}
use Rattle.plane_steps.proofs.turns.Goals as goal

pub loop-i-preserved : goal.loop-i-preserved
loop-i-preserved c =
    let a = c.args in (
      c.add_tweakey-in-loop-i.ensures.shape,
      λ z e.
          turns_more a.ahead a.k a.n a.tweakeys.now c.loop-i.i c.step_at-s.ensures c.key_behind.ensures
          (c.loop-i.invariant.1 z e) c.two_rounds.ensures c.add_tweakey-in-loop-i.ensures,
    )

pub returns : goal.returns
returns c =
    let a = c.args in
    let e : c.loop-i.i ≡ a.n = omega arith in
    rw e at
    (c.loop-i.invariant.1 a.x.now
    (turns_none a.ahead a.k a.n a.tweakeys.now c.key_before.ensures c.add_tweakey.ensures))
