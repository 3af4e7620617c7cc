-- A step is a run of one.
use mathlib.Core.Path.{◌∙◌}
use native.Mathlib.Omega.{arith}
use Rattle.runs.proofs.Runs.{stepped_run}
use Rattle.cipher.proofs.block.step.Goals as goal

pub returns : goal.returns
returns c =
    let a = c.args in
    c.run.ensures ∙ stepped_run a.done a.tweak a.block (omega arith) (omega arith) a.cipher a.key
