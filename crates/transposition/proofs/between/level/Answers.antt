-- One row more, or none.
use native.Mathlib.Omega.{arith}
use mathlib.Core.Path.{◌≡◌, ◌∙◌}
use Rattle.transposition.proofs.Rows.{one_more, no_more, exchanged_all}
use Rattle.transposition.proofs.between.level.Goals.{then-i-eq0, else-i-eq0}
use Rattle.transposition.proofs.between.level.Goals as goal

pub loop-i-preserved : goal.loop-i-preserved
loop-i-preserved g c =
    elim c.if-i-eq0.branch [
      | then-i-eq0 w ↦ one_more g.row.D g.row.MASK c.loop-i.i c.args.x.now c.loop-i.invariant w.if-i-eq0.true (w.x-is ∙ w.exchange.ensures)
      | else-i-eq0 w ↦ no_more g.row.D g.row.MASK c.loop-i.i c.args.x.now c.loop-i.invariant w.if-i-eq0.false w.x-is
    ]

pub returns : goal.returns
returns g c =
    let all : c.loop-i.i ≡ 8 = omega arith in
    rw all at c.loop-i.invariant ∙ exchanged_all g.row.MASK c.args.x.now c.told-x g.row.D c.requires
