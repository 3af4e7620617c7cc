-- Every chain is empty.
use mathlib.Core.Path.{refl}
use native.Mathlib.Omega.{arith}
use Rattle.bits.proofs.Lists.{get_or_zeros}
use Rattle.tally.proofs.Steps.{empty_zeros}
use Rattle.tally.proofs.Tally.new.Goals as goal

pub invariant_of-result-clause-heads : goal.invariant_of-result-clause-heads
invariant_of-result-clause-heads g c = λ h. omega (arith, get_or_zeros 2048 h)

pub invariant_of-result-clause-down : goal.invariant_of-result-clause-down
invariant_of-result-clause-down g c = record { below = λ k p. omega (arith, get_or_zeros g.row.N k) }

pub returns : goal.returns
returns g c =
    empty_zeros _ (get_or_zeros 2048) refl
