-- By what `is_listed` answered; a block is one of many.
use mathlib.Core.Path.{sym, ◌∙◌}
use native.Mathlib.Omega.{arith}
use Rattle.cipher.proofs.Entries.{looked_up, stayed}
use Rattle.cipher.proofs.block.look_up.Goals as goal

pub returns-then-not-is_listed : goal.returns-then-not-is_listed
returns-then-not-is_listed c =
    let a = c.args in
    stayed a.suite.cipher a.suite.steps a.key a.tweak a.block.now (omega arith) (omega arith) a.ahead
    (sym c.is_listed.ensures ∙ c.if-not-is_listed.true)

pub returns : goal.returns
returns c =
    let a = c.args in
    looked_up a.suite.cipher a.suite.steps a.key a.tweak a.block.now (omega arith) (omega arith) a.ahead
    (sym c.is_listed.ensures ∙ c.if-not-is_listed.false)
    c.cipher_of.ensures (rw c.from-n.ensures at c.run.ensures)
