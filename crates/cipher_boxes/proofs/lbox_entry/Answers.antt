-- By the joined tables.
use mathlib.Core.Path.{ap, ◌∙◌}
use mathlib.Core.List.{List}
use Prim.Native.Nat.{ℕ}
use Rattle.cipher_boxes.specs.Computed.{entry_by, lbox_entry}
use Rattle.cipher_boxes.proofs.lbox_entry.Goals as goal

pub returns : goal.returns
unfolding lbox_entry
returns c =
    let t = c.args.t in
    c.entry_by.ensures ∙ ap (λ (m : List (List ℕ)). entry_by m t.from t.to c.args.b) c.lbox-of.ensures
