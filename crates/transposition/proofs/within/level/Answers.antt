-- One word more, or none.
use native.Mathlib.Omega.{arith}
use mathlib.Core.Path.{◌≡◌, ◌∙◌}
use Rattle.transposition.proofs.Rows.{one_more_in, no_more_in, exchanged_all_in}
use Rattle.transposition.proofs.within.level.Goals.{then-c-eq0, else-c-eq0}
use Rattle.transposition.proofs.within.level.Goals as goal

pub loop-c-preserved : goal.loop-c-preserved
loop-c-preserved g c =
    elim c.if-c-eq0.branch [
      | then-c-eq0 w ↦ one_more_in g.row.D g.row.MASK c.loop-c.c c.args.r.now c.loop-c.invariant w.if-c-eq0.true w.r-is
      | else-c-eq0 w ↦ no_more_in g.row.D g.row.MASK c.loop-c.c c.args.r.now c.loop-c.invariant w.if-c-eq0.false w.r-is
    ]

pub returns : goal.returns
returns g c =
    let all : c.loop-c.c ≡ 16 = omega arith in
    rw all at c.loop-c.invariant ∙ exchanged_all_in g.row.MASK c.args.r.now c.told-r g.row.D c.requires
