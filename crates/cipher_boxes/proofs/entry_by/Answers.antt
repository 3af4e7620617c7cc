-- By what it calls.
use mathlib.Core.Path.{ap, ◌∙◌}
use mathlib.Core.List.{List, [], ◌∷◌}
use Prim.Native.Nat.{ℕ}
use lib.ListN.{get_or}
use Rattle.lbox.specs.Lbox
use Rattle.printed.specs.Rule.{half_of}
use Rattle.cipher_boxes.proofs.entry_by.Goals as goal

pub returns : goal.returns
returns g c =
    let a = c.args in
    let m = g.L.LBoxLayer.lbox a.lbox.now in
    c.half_of.ensures
    ∙ ap (λ (w : List ℕ). half_of a.t.to (get_or w 0 0))
    (c.layer-w.ensures
    ∙ ap (λ (x : ℕ). Lbox.layer m (x ∷ 0 ∷ 0 ∷ 0 ∷ 0 ∷ 0 ∷ 0 ∷ 0 ∷ [])) c.in_half.ensures)
