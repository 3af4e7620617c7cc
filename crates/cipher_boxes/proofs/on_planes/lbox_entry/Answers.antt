-- By what it calls.
use mathlib.Core.Path.{ap, ◌∙◌}
use mathlib.Core.List.{List}
use Prim.Native.Nat.{ℕ}
use Rattle.bits.specs.Bit.{bit}
use Rattle.bits.specs.Table.{tab}
use Rattle.printed.specs.Rule.{half_of}
use Rattle.planes.specs.Planes.{row_at}
use Rattle.plane_lbox.specs.Network.{times_at}
use Rattle.cipher_boxes.specs.Computed.{lbox_in, plane_lbox_entry}
use Rattle.cipher_boxes.proofs.on_planes.lbox_entry.Goals as goal

pub returns : goal.returns
unfolding plane_lbox_entry
returns c =
    let t = c.args.t in
    let planes = c.row_alone.ensures ∙ ap (λ (x : ℕ). tab 16 (bit x)) c.in_half.ensures in
    let y = c.network-y.ensures ∙ ap (times_at 64 (lbox_in t.cipher t.direction)) planes in
    c.half_of.ensures ∙ ap (half_of t.to) (c.first_row.ensures ∙ ap (λ (r : List ℕ). row_at r 0) y)
