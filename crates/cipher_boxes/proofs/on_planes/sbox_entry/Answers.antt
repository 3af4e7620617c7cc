-- By what it calls.
use mathlib.Core.Path.{ap, ◌∙◌}
use mathlib.Core.List.{List}
use Prim.Native.Nat.{ℕ}
use Rattle.sbox.specs.Sbox
use Rattle.cipher_boxes.specs.Computed.{sbox_in, plane_sbox_entry}
use Rattle.cipher_boxes.proofs.on_planes.sbox_entry.Goals as goal

pub returns : goal.returns
unfolding plane_sbox_entry
returns c =
    let a = c.args in
    let w = c.circuit.ensures ∙ ap (Sbox.layer_at 64 (sbox_in a.k a.d)) c.alone.ensures in
    c.first.ensures ∙ ap (λ (w : List ℕ). Sbox.column w 0) w
