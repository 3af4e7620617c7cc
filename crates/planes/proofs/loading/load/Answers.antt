-- Eight rows of words are read, and turned.
use mathlib.Core.Path.{◌≡◌}
use native.Mathlib.Omega.{arith}
use Rattle.planes.proofs.Reading.{loaded}
use Rattle.planes.proofs.loading.load.Goals as goal

pub returns : goal.returns
returns c =
    let all : c.loop-i.i ≡ 8 = omega arith in
    rw c.turn.ensures (loaded c.args.s.now c.args.at c.loop-i.x (rw all at c.loop-i.invariant) c.requires)
