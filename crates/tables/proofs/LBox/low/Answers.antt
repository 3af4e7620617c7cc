-- The two tables are the paper's, and those joined are the product.
use mathlib.Core.Path.{refl, sym, ap, ◌∙◌}
use lib.Dec.{lit<}
use Rattle.lbox.specs.Lbox
use Rattle.lbox.specs.Tables.{lows}
use Rattle.printed.specs.Lboxes
use Rattle.printed.specs.Printed.{tables, table}
use Rattle.printed.specs.Rule.{rules, rule}
use Rattle.printed.specs.declared.Half.TheVariants.{Low}
use Rattle.printed.proofs.Joined.{halves_joined}
use Rattle.tables.specs.LBox.{matrix}
use Rattle.tables.specs.declared.LBox.{LBox}
use Rattle.tables.proofs.LBox.low.Goals as goal

pub returns-in-Scream : goal.returns-in-Scream
unfolding tables table Lboxes.table8 Lboxes.table9 rules rule lows Lbox.scream
returns-in-Scream c =
    c.join.ensures
    ∙ halves_joined Lbox.scream Low 0 1 refl (lit< tt) (lit< tt) refl refl
    ∙ sym (ap (λ (b : LBox). lows (matrix b)) c.in-Scream.is)

pub returns-in-ScreamInverse : goal.returns-in-ScreamInverse
unfolding tables table Lboxes.table12 Lboxes.table13 rules rule lows Lbox.scream_inverse
returns-in-ScreamInverse c =
    c.join-in-ScreamInverse.ensures
    ∙ halves_joined Lbox.scream_inverse Low 4 5 refl (lit< tt) (lit< tt) refl refl
    ∙ sym (ap (λ (b : LBox). lows (matrix b)) c.in-ScreamInverse.is)

pub returns-in-IScream : goal.returns-in-IScream
unfolding tables table Lboxes.table17 Lboxes.table18 rules rule lows Lbox.iscream
returns-in-IScream c =
    c.join-in-IScream.ensures
    ∙ halves_joined Lbox.iscream Low 8 9 refl (lit< tt) (lit< tt) refl refl
    ∙ sym (ap (λ (b : LBox). lows (matrix b)) c.in-IScream.is)
