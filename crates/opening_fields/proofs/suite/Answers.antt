-- The suite's two bytes.
use Rattle.opening_fields.specs.Opening.{opening_suite}
use Rattle.opening_fields.proofs.suite.Goals as goal

pub returns : goal.returns
unfolding opening_suite
returns c =
    λ i. record { cipher = c.byte_at-cipher.ensures i; steps = c.byte_at-steps.ensures i }
