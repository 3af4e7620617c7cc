-- A row through the tables is the matrix times the row.
use Rattle.lbox.proofs.Matrix.{by_bytes}
use Rattle.tables.specs.LBox.{matrix}
use Rattle.tables.proofs.LBox.row.Goals as goal

pub returns : goal.returns
returns c =
    cc (by_bytes (matrix c.args.self) c.args.x c.ranges.x.fits)
