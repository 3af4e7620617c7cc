-- Each entry is what the rule makes of its byte.
use mathlib.Core.Path.{ap, ◌∙◌}
use mathlib.Core.List.{List}
use Prim.Native.Nat.{ℕ}
use borrow.Author.Rules.{rules}
use Rattle.bits.specs.Table.{tab}
use Rattle.lbox.proofs.Made.{made_table}
use Rattle.printed.specs.Rule.{made, product}
use Rattle.made_tables.proofs.lbox_table.Goals as goal

pub returns : goal.returns
returns c =
    let a = c.args in
    made_table _ _ (made (product c.matrix-m.result a.from a.to)) 256 (λ i h y q call. search rules) c.from_fn.ensures.items
    ∙ ap (λ (m : List (List ℕ)). tab 256 (made (product m a.from a.to))) c.matrix-m.ensures
