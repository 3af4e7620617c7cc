-- As many times a as there were turns is q times n and a rest.
use Prim.Native.Nat.{◌≤◌}
use Rattle.score.proofs.Quotients.{Divided}
use Rattle.score.proofs.long_quotient.Given as goal

abbrev pub invariant-loop : goal.invariant-loop
invariant-loop l = (l.q ≤ l.counter) × Divided l.a l.n l.q l.rest l.counter
