-- The network is the matrix.
use mathlib.Core.Path.{refl}
use borrow.Author.Rules.{rules}
use Rattle.lbox.specs.Lbox
use Rattle.plane_lbox.proofs.scream_inverse.layer.Goals as goal

pub returns : goal.returns
unfolding Lbox.scream_inverse
returns c = c.each_row.ensures Lbox.scream_inverse refl (λ r y p. search rules)
