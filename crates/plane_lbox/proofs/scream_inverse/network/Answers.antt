-- The straight-line code computes the trees of the listing.
use borrow.Author.Rules.{rules}
use lib.ListN.{get_or}
use mir.Syntax.{w64}
use mir.Val.{Fits}
use Rattle.lbox.specs.Lbox
use Rattle.plane_lbox.proofs.Networks
use Rattle.plane_lbox.proofs.Network.{network_is}
use Rattle.plane_lbox.proofs.Tests.{scream_inverse_right}
use Rattle.plane_lbox.proofs.scream_inverse.network.Goals as goal

pub returns : goal.returns
returns c =
    network_is Lbox.scream_inverse Networks.scream_inverse scream_inverse_right 64 c.args.r
    (λ i. let f : Fits w64 (get_or c.args.r i 0) = search rules in f.fits)
