-- The tweakey and two rounds undone.
use mathlib.Core.Path.{sym, ap, ◌∙◌}
use Prim.Native.Nat.{◌+◌, ◌*◌}
use Rattle.state.specs.Rows.{add_rows}
use Rattle.state.specs.State.{rows_of}
use Rattle.rounds.specs.Cipher.{parts, unround, unstep}
use Rattle.tweakey.proofs.Tweakeys.{tweakeys_in_lem}
use Rattle.steps.proofs.BackWay.step.Goals as goal

pub returns : goal.returns
unfolding unstep
returns g c =
    let k = c.args.self.now.cipher in
    let p = parts k in
    let s = c.args.s in
    let t = ap rows_of c.tweakey-t.ensures ∙ sym (tweakeys_in_lem k c.args.h (s + 1)) in
    let x = c.rows_of.ensures ∙ c.add.ensures ∙ ap (add_rows (rows_of c.args.x)) t in
    let y = c.unround-y.ensures ∙ ap (unround p (2 * s + 2)) x in
    c.state_of.ensures ∙ c.unround-z.ensures ∙ ap (unround p (2 * s + 1)) y
