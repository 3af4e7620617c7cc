-- The two tables are the paper's, and those joined are the product.
use mathlib.Core.Path.{refl, sym, ap, ◌∙◌}
use lib.Dec.{lit<}
use Rattle.lbox.specs.Lbox
use Rattle.lbox.specs.Tables.{highs}
use Rattle.printed.specs.Lboxes
use Rattle.printed.specs.Printed.{tables, table}
use Rattle.printed.specs.Rule.{rules, rule}
use Rattle.printed.specs.declared.Half.TheVariants.{High}
use Rattle.printed.proofs.Joined.{halves_joined}
use Rattle.tables.specs.LBox.{matrix}
use Rattle.tables.specs.declared.LBox.{LBox}
use Rattle.tables.proofs.LBox.high.Goals as goal

pub returns-in-Scream : goal.returns-in-Scream
unfolding tables table Lboxes.table10 Lboxes.table11 rules rule highs Lbox.scream
returns-in-Scream c =
    c.join.ensures
    ∙ halves_joined Lbox.scream High 2 3 refl (lit< tt) (lit< tt) refl refl
    ∙ sym (ap (λ (b : LBox). highs (matrix b)) c.in-Scream.is)

pub returns-in-ScreamInverse : goal.returns-in-ScreamInverse
unfolding tables table Lboxes.table14 Lboxes.table15 rules rule highs Lbox.scream_inverse
returns-in-ScreamInverse c =
    c.join-in-ScreamInverse.ensures
    ∙ halves_joined Lbox.scream_inverse High 6 7 refl (lit< tt) (lit< tt) refl refl
    ∙ sym (ap (λ (b : LBox). highs (matrix b)) c.in-ScreamInverse.is)

pub returns-in-IScream : goal.returns-in-IScream
unfolding tables table Lboxes.table19 Lboxes.table20 rules rule highs Lbox.iscream
returns-in-IScream c =
    c.join-in-IScream.ensures
    ∙ halves_joined Lbox.iscream High 10 11 refl (lit< tt) (lit< tt) refl refl
    ∙ sym (ap (λ (b : LBox). highs (matrix b)) c.in-IScream.is)
