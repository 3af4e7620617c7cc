-- By computing.
use mathlib.Core.Path.{refl}
use Rattle.decimal.specs.Decimal.{digits, digits_in}
use Rattle.trigrams.specs.Trigrams.{trigram, trigrams, count, less, common, shared}
use Rattle.score.specs.Score.{equal_segments, score_by, score}
use Rattle.rows.specs.Row.{right_aligned, row_of}
use Rattle.page.specs.Page.{row, rows}
use Rattle.page.specs.Examples.{PageExamples}

pub page_examples : PageExamples
unfolding digits digits_in trigram trigrams count less common shared equal_segments score_by score right_aligned row_of row rows
page_examples = record { valve = refl; page = refl; widest = refl; least = refl }
