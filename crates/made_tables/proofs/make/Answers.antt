-- By the place: nothing past the last, else the table that the rule there makes.
use mathlib.Core.Path.{sym}
use borrow.Author.Rules.{rules}
use borrow.Author.Tests.{ltb-true}
use Rattle.made_tables.proofs.Places.{lbox_makes, sbox_makes}
use Rattle.made_tables.proofs.make.Goals as goal

pub returns-then-place-lt12 : goal.returns-then-place-lt12
returns-then-place-lt12 c =
    let e = c.lbox_table.ensures in
    lbox_makes c.args.place c.if-place-lt12.true e (search rules) (search rules) (search rules)

pub returns : goal.returns
returns c =
    let h = c.in_ok-x.ensures.lookup in
    sbox_makes c.args.place c.if-place-lt12.false (ltb-true _ _ (sym h.0)) c.sbox_table.ensures h.1
