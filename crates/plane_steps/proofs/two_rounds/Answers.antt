-- By what it calls, one round after the other.
use Rattle.rounds.specs.Cipher.{parts}
use Rattle.planes.proofs.Goes.{goes_then, goes_as}
use Rattle.turns.proofs.Ways.{two_ahead, two_back}
use Rattle.plane_steps.proofs.two_rounds.Goals as goal

pub returns-then-ahead : goal.returns-then-ahead
returns-then-ahead c =
    let a = c.args in
    goes_as (goes_then c.round.ensures c.round-then-ahead.ensures)
    (λ b l w. two_ahead (parts a.k) a.s w c.constant-first.ensures c.constant-second.ensures c.if-ahead.true)

pub returns-else-ahead : goal.returns-else-ahead
returns-else-ahead c =
    let a = c.args in
    goes_as (goes_then c.round-else-ahead.ensures c.round-else-ahead-2.ensures)
    (λ b l w. two_back (parts a.k) a.s w c.constant-first.ensures c.constant-second.ensures c.if-ahead.false)
