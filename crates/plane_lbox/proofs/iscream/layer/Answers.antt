-- The network is the matrix.
use mathlib.Core.Path.{refl}
use borrow.Author.Rules.{rules}
use Rattle.lbox.specs.Lbox
use Rattle.plane_lbox.proofs.iscream.layer.Goals as goal

pub returns : goal.returns
unfolding Lbox.iscream
returns c = c.each_row.ensures Lbox.iscream refl (λ r y p. search rules)
