-- By what it calls.
use mathlib.Core.Path.{ap, ◌∙◌}
use Rattle.bits.specs.Bytes.{added}
use Rattle.calls.specs.Pieces.{tag_from}
use Rattle.calls.specs.Tweak.{special_tweak}
use Rattle.text_blocks.specs.Under.{enciphers}
use Rattle.mode.proofs.tag.make.Goals as goal

pub returns : goal.returns
unfolding tag_from
returns c =
    let a = c.args in
    let tweak = c.special_tweak-t.ensures ∙ ap (special_tweak a.u.now.nonce.now) c.tag_mark.ensures in
    c.add.ensures
    ∙ ap (λ b. added b a.sum) (c.encipher_one.ensures ∙ ap (λ t. enciphers a.u.now.suite a.u.now.key t a.checksum) tweak)
