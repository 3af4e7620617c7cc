-- Each entry is the column that the equations make of its byte.
use mathlib.Core.Path.{◌∙◌}
use borrow.Author.Rules.{rules}
use lib.ListN.{get_or}
use Rattle.bits.proofs.Lists.{tab_get_or}
use Rattle.lbox.proofs.Made.{made_table}
use Rattle.made_tables.specs.Boxes.{sbox_of}
use Rattle.made_tables.proofs.Places.{sbox_long}
use Rattle.made_tables.proofs.sbox_table.Goals as goal

pub returns : goal.returns
returns c =
    let t = sbox_of c.args.x in
    made_table _ _ (λ b. get_or t b 0) 256 (λ i h y q call. search rules) c.from_fn.ensures.items
    ∙ tab_get_or 256 t (sbox_long c.args.x)
