-- The loop fills the text from the front, three bytes a turn.
use mathlib.Core.Path.{◌≡◌, ◌∙◌}
use native.Mathlib.Omega.{arith}
use Rattle.bits.proofs.Lists.{filled_all}
use Rattle.table_text.proofs.Bytes.{by_bytes}
use Rattle.table_text.proofs.put.Goals as goal

pub returns : goal.returns
returns c =
    let e : c.loop-i.i ≡ 256 = omega arith in
    filled_all (rw e at c.loop-i.invariant) ∙ by_bytes c.args.table.now
