-- The circuit is the S-box by its table.
use borrow.Author.Rules.{rules}
use Rattle.sbox.specs.Sbox
use Rattle.plane_sbox.proofs.scream.layer.Goals as goal

pub returns : goal.returns
returns c = c.each_column.ensures Sbox.scream (λ w r p. search rules)
