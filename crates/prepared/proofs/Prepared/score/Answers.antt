-- What the typed sentence shares with the source, the source shares with it.
use mathlib.Core.Path.{◌∙◌}
use Rattle.trigrams.specs.Trigrams.{trigrams}
use Rattle.trigrams.proofs.Common.{shared_sym}
use Rattle.prepared.proofs.Prepared.score.Goals as goal

pub score_by-requires : goal.score_by-requires
score_by-requires c =
    let a = c.args.self.now in
    let typed = trigrams a.typed.now in
    c.compare-c.ensures.is typed (a.counted c.if-self-le4096.true) ∙ shared_sym typed (trigrams c.args.source.now)
