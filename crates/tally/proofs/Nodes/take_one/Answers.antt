-- The node that is found is v's, or 0, where nothing is counted.
use mathlib.Core.Path.{◌≡◌}
use Prim.Native.Nat.{◌<◌, min}
use native.Mathlib.Omega.{arith}
use lib.ListN.{length, get_or}
use Rattle.tally.proofs.Steps.{took}
use Rattle.tally.proofs.Nodes.take_one.Goals as goal

pub returns : goal.returns
returns g c =
    let a = c.args.self.now in
    let counts = c.args.counts.now in
    let one : c.min-d.result ≡ min 1 (get_or c.args.counts.now c.find-k.result 0) = omega (arith, c.min-d.ensures) in
    let low : c.find-k.result < length c.args.counts.now = omega (arith, c.find-k.ensures.within, a.room, c.requires.long) in
    rw (c.from.ensures) (took a counts c.requires.none c.find-k.ensures.left c.args.v c.find-k.result c.min-d.result c.find-k.ensures.is low one)
