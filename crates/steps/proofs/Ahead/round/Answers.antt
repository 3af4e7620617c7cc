-- By what it calls; the lent layer is the cipher's.
use mathlib.Core.Path.{◌∙◌}
use Rattle.lbox.specs.Lbox
use Rattle.rounds.specs.Cipher.{add_constant, round}
use Rattle.steps.proofs.Ahead.round.Goals as goal

pub returns : goal.returns
unfolding round
returns g c =
    let z = c.add_constant-z.ensures ∙ (λ i. add_constant (c.constant.ensures i) (c.sbox_layer-y.ensures i)) in
    c.layer.ensures ∙ (λ i. Lbox.layer (c.args.self.now.lbox_is i) (z i))
