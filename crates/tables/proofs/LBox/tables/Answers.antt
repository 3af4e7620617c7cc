-- Entry by entry: antt compares the code's tables with those of the paper.
use mathlib.Core.Path.{sym, ap}
use Rattle.printed.specs.Lboxes
use Rattle.printed.specs.Printed.{tables, table}
use Rattle.tables.specs.LBox.{printed}
use Rattle.tables.proofs.LBox.tables.Goals as goal

pub returns-in-Scream : goal.returns-in-Scream
unfolding tables table Lboxes.table8 Lboxes.table9 Lboxes.table10 Lboxes.table11
returns-in-Scream c =
    sym (ap printed c.in-Scream.is)

pub returns-in-ScreamInverse : goal.returns-in-ScreamInverse
unfolding tables table Lboxes.table12 Lboxes.table13 Lboxes.table14 Lboxes.table15
returns-in-ScreamInverse c =
    sym (ap printed c.in-ScreamInverse.is)

pub returns-in-IScream : goal.returns-in-IScream
unfolding tables table Lboxes.table17 Lboxes.table18 Lboxes.table19 Lboxes.table20
returns-in-IScream c =
    sym (ap printed c.in-IScream.is)
