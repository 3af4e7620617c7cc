-- By what it calls.
use mathlib.Core.Path.{ap, ◌∙◌}
use mathlib.Core.List.{List}
use Prim.Native.Nat.{ℕ}
use Rattle.sbox.specs.Sbox
use Rattle.cipher_boxes.specs.Computed.{sbox_in, sbox_entry}
use Rattle.cipher_boxes.proofs.sbox_entry.Goals as goal

pub returns : goal.returns
unfolding sbox_entry
returns c =
    let a = c.args in
    let w = c.sbox_layer.ensures ∙ ap (Sbox.layer (sbox_in a.k a.d)) c.alone.ensures in
    c.first.ensures ∙ ap (λ (w : List ℕ). Sbox.column w 0) w
