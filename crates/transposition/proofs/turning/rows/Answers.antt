-- All rows are turned.
use mathlib.Core.List.{[]}
use mathlib.Core.Path.{◌≡◌, ◌∙◌}
use native.Mathlib.Omega.{arith}
use Rattle.bits.proofs.Elements.{replaced_all}
use Rattle.transposition.proofs.Rows.{within_rows}
use Rattle.transposition.proofs.turning.rows.Goals as goal

pub returns : goal.returns
returns c =
    let all : c.loop-r.r-index ≡ 8 = omega arith in
    replaced_all [] (rw all at c.loop-r.invariant) ∙ within_rows c.args.x.now
