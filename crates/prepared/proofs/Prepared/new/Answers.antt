-- The empty sentence has no trigrams.
use Rattle.trigrams.specs.Trigrams.{trigrams}
use Rattle.prepared.proofs.Prepared.new.Goals as goal

pub invariant_of-result : goal.invariant_of-result
unfolding trigrams
invariant_of-result c = record { counted = λ h. c.new.ensures.counts }
