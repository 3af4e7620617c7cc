-- All rows are spread.
use borrow.Author.Rules.{rules}
use lib.ListN.{get_or}
use mathlib.Core.List.{[]}
use mathlib.Core.Path.{◌≡◌}
use mir.Syntax.{w16}
use mir.Val.{Fits}
use native.Mathlib.Omega.{arith}
use Rattle.bits.proofs.Elements.{replaced_all}
use Rattle.plane_tweakeys.proofs.Ways.{spread_shared}
use Rattle.plane_tweakeys.proofs.sharing.share.Goals as goal

pub returns : goal.returns
returns c =
    let w = c.args.w in
    let all : c.loop-i.i ≡ 8 = omega arith in
    spread_shared w (search rules) (λ i. let f : Fits w16 (get_or w i 0) = search rules in f.fits)
    (replaced_all [] (rw all at c.loop-i.invariant))
