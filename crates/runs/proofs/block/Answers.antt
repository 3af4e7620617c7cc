-- By what it calls: the schedule holds the tweakeys, and the steps go by it, one way or the other.
use mathlib.Core.Path.{◌≡◌, sym, ap, ◌∙◌}
use mathlib.Core.Bool.{Bool, true, false}
use Rattle.runs.specs.Run.{block_by}
use Rattle.tweakey.proofs.Tweakeys.{tweakeys_held}
use Rattle.runs.proofs.Runs.{ahead_is, back_is}
use Rattle.runs.proofs.block.Goals as goal

pub returns-then-is_ahead : goal.returns-then-is_ahead
returns-then-is_ahead g c =
    let a = c.args in
    let k = g.W.Way.cipher a.way.now in
    let e : g.W.Way.ahead ≡ true = sym c.is_ahead.ensures ∙ c.if-is_ahead.true in
    c.store.ensures
    ∙ ahead_is k a.r.done a.r.steps a.r.wanted a.key a.tweak a.b c.schedule_of-h.result
    (tweakeys_held (rw c.cipher-k.ensures at c.schedule_of-h.ensures))
    c.load.ensures c.load-2.ensures
    (rw c.cipher-k.ensures at c.tweakey-first.ensures)
    c.load-x.ensures c.added.ensures (rw e at c.steps-y.ensures)
    ∙ sym (ap (λ (b : Bool). block_by b k a.r.done a.r.steps a.r.wanted a.key a.tweak a.b) e)

pub returns : goal.returns
returns g c =
    let a = c.args in
    let k = g.W.Way.cipher a.way.now in
    let e : g.W.Way.ahead ≡ false = sym c.is_ahead.ensures ∙ c.if-is_ahead.false in
    c.store-2.ensures
    ∙ back_is k a.r.done a.r.steps a.r.wanted a.key a.tweak a.b c.schedule_of-h.result
    (tweakeys_held (rw c.cipher-k.ensures at c.schedule_of-h.ensures))
    c.load.ensures c.load-2.ensures
    (rw c.cipher-k.ensures at c.tweakey-first.ensures)
    c.load-x.ensures (rw e at c.steps-y-2.ensures) c.added-2.ensures
    ∙ sym (ap (λ (b : Bool). block_by b k a.r.done a.r.steps a.r.wanted a.key a.tweak a.b) e)
