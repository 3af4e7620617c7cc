-- The network is the matrix.
use mathlib.Core.Path.{refl}
use borrow.Author.Rules.{rules}
use Rattle.lbox.specs.Lbox
use Rattle.plane_lbox.proofs.scream.layer.Goals as goal

pub returns : goal.returns
unfolding Lbox.scream
returns c = c.each_row.ensures Lbox.scream refl (λ r y p. search rules)
