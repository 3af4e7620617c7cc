-- The scores of the cases, computed by the prover.
use mathlib.Core.Path.{refl}
use Rattle.trigrams.specs.Trigrams.{trigram, trigrams, count, less, common, shared}
use Rattle.score.specs.Score.{equal_segments, score_by, score}
use Rattle.score.specs.Examples.{cases, CasesHold}

pub score_examples : CasesHold cases
unfolding cases trigram trigrams count less common shared equal_segments score_by score
score_examples = (refl, (refl, (refl, (refl, (refl, (refl, (refl, (refl, (refl, (refl, (refl, tt)))))))))))
