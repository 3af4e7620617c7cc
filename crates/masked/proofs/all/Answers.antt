-- A run of all steps is the cipher.
use mathlib.Core.Path.{sym, ap, ◌∙◌}
use mathlib.Core.Bool.{Bool, true, false}
use Rattle.blockwise.specs.Blocks.{each_block}
use Rattle.turns.specs.Turns.{ciphered}
use Rattle.turns.proofs.Ways.{ciphered_is}
use Rattle.masked.proofs.all.Goals as goal

pub returns-then-ahead : goal.returns-then-ahead
returns-then-ahead c =
    let a = c.args in
    let f = ciphered_is true a.k a.n a.key ∙ sym (ap (λ (b : Bool). ciphered b a.k a.n a.key) c.if-ahead.true) in
    c.all.ensures ∙ (λ i. each_block (f i) a.tweaks.now a.blocks.now)

pub returns-else-ahead : goal.returns-else-ahead
returns-else-ahead c =
    let a = c.args in
    let f = ciphered_is false a.k a.n a.key ∙ sym (ap (λ (b : Bool). ciphered b a.k a.n a.key) c.if-ahead.false) in
    c.all-else-ahead.ensures ∙ (λ i. each_block (f i) a.tweaks.now a.blocks.now)
