-- Two rounds and the tweakey.
use mathlib.Core.Path.{sym, ap, ◌∙◌}
use Prim.Native.Nat.{◌+◌, ◌*◌}
use Rattle.state.specs.Rows.{add_rows}
use Rattle.state.specs.State.{rows_of}
use Rattle.rounds.specs.Cipher.{parts, round, step}
use Rattle.tweakey.proofs.Tweakeys.{tweakeys_in_lem}
use Rattle.steps.proofs.AheadWay.step.Goals as goal

pub returns : goal.returns
unfolding step
returns g c =
    let k = c.args.self.now.cipher in
    let p = parts k in
    let s = c.args.s in
    let y = c.round-y.ensures ∙ ap (round p (2 * s + 1)) c.rows_of.ensures in
    let z = c.state_of.ensures ∙ c.round-z.ensures ∙ ap (round p (2 * s + 2)) y in
    let t = ap rows_of c.tweakey.ensures ∙ sym (tweakeys_in_lem k c.args.h (s + 1)) in
    c.add.ensures ∙ (λ i. add_rows (z i) (t i))
