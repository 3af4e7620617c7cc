-- The two stores.
use Prim.Native.Nat.{◌+◌, ◌/◌}
use lib.ListN.{set}
use Rattle.transposition.specs.Levels.{exchanged_rows}
use Rattle.transposition.proofs.between.exchange.Goals as goal

pub returns : goal.returns
unfolding exchanged_rows
returns g c =
    let a = c.args in
    λ i. set (set a.x.now a.i (c.pairs.ensures.first i)) (a.i + g.row.D / 16) (c.pairs.ensures.second i)
