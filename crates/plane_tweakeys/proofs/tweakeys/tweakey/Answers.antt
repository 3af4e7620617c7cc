-- By the cipher and s.
use mathlib.Core.Path.{◌≡◌}
use native.Mathlib.Omega.{arith}
use lib.Dec.{lit<}
use Rattle.plane_tweakeys.proofs.Schedule.{scream_goes, even_goes, odd_goes}
use Rattle.plane_tweakeys.proofs.tweakeys.tweakey.Goals as goal

pub returns-in-0 : goal.returns-in-0
returns-in-0 c =
    rw c.in-Scream.is (scream_goes c.args.key.now c.args.s 0 c.in-0.is (lit< tt) c.sum.ensures)

pub returns-in-1 : goal.returns-in-1
returns-in-1 c =
    rw c.in-Scream.is (scream_goes c.args.key.now c.args.s 1 c.in-1.is (lit< tt) c.phi_sum.ensures)

pub returns-in_default : goal.returns-in_default
returns-in_default c =
    let two : c.args.s ≡ 2 = omega arith in
    rw c.in-Scream.is (scream_goes c.args.key.now c.args.s 2 two (lit< tt) c.phi_phi_sum.ensures)

pub returns-then-s-eq0 : goal.returns-then-s-eq0
returns-then-s-eq0 c =
    rw c.in-IScream.is (even_goes c.args.key.now c.args.s c.if-s-eq0.true c.sum-then-s-eq0.ensures)

pub returns-else-s-eq0 : goal.returns-else-s-eq0
returns-else-s-eq0 c =
    rw c.in-IScream.is (odd_goes c.args.key.now c.args.s c.if-s-eq0.false c.rotate.ensures)
