-- A row through the tables is the matrix times the row.
use mathlib.Core.Path.{◌∙◌}
use Rattle.lbox.specs.Tables.{looked_up}
use Rattle.lbox.proofs.Matrix.{by_bytes}
use Rattle.tables.specs.LBox.{matrix}
use Rattle.tables.proofs.Joined.row.Goals as goal

pub returns : goal.returns
returns c =
    let j = c.args.self.now in
    let x = c.args.x in
    c.look_up.ensures ∙ (λ i. looked_up (j.low_is i) (j.high_is i) x) ∙ by_bytes (matrix j.of) x c.ranges.x.fits
