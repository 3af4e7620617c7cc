-- Row 0, with a row that is the same in every state.
use borrow.Author.Rules.{rules}
use mir.Syntax.{w16}
use mir.Val.{Fits}
use Rattle.plane_tweakeys.proofs.Ways.{constant_goes}
use Rattle.plane_tweakeys.proofs.sums.add_constant.Goals as goal

pub returns : goal.returns
returns c =
    let f : Fits w16 c.args.c = search rules in
    constant_goes c.args.c f.fits c.requires (cc)
