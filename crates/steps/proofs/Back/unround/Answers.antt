-- By what it calls; the lent layer is that of the cipher's inverse.
use mathlib.Core.Path.{ap, ◌∙◌}
use Rattle.lbox.specs.Lbox
use Rattle.sbox.specs.Sbox
use Rattle.rounds.specs.Cipher.{parts, add_constant, unround}
use Rattle.steps.proofs.Back.unround.Goals as goal

pub returns : goal.returns
unfolding unround
returns g c =
    let w = c.args.self.now in
    let y = c.layer-y.ensures ∙ (λ i. Lbox.layer (w.lbox_is i) c.args.w) in
    c.sbox_layer.ensures ∙ ap (Sbox.layer (parts w.cipher).sbox_inverse) (c.add_constant-z.ensures ∙ (λ i. add_constant (c.constant.ensures i) (y i)))
