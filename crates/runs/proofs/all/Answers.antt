-- The loop has done the first i blocks.
use native.Mathlib.Omega.{arith}
use Rattle.runs.proofs.Loop.{none_done, one_more, all_done}
use Rattle.runs.proofs.Runs.{blockwise_by}
use Rattle.runs.proofs.all.Goals as goal

pub loop-i-init : goal.loop-i-init
loop-i-init g c =
    let a = c.args in
    none_done (blockwise_by g.W.Way.ahead (g.W.Way.cipher a.way.now) a.r.done a.r.steps a.r.wanted a.key) c.whole-m.ensures

pub loop-i-preserved : goal.loop-i-preserved
loop-i-preserved g c =
    one_more c.loop-i.invariant (omega arith) c.one.ensures

pub returns : goal.returns
returns g c =
    all_done c.loop-i.invariant (omega arith)
