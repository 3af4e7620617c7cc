-- The byte stands alone in column 0, and goes to the entry that it chooses.
use mathlib.Core.Path.{ap, ◌∙◌}
use mathlib.Core.List.{List}
use Prim.Native.Nat.{ℕ}
use native.Mathlib.Omega.{arith}
use Rattle.sbox.specs.Sbox
use Rattle.made_tables.specs.Boxes.{sbox_of}
use Rattle.made_tables.proofs.Places.{through}
use Rattle.made_tables.proofs.sbox_entry.Goals as goal

pub returns : goal.returns
returns c =
    let a = c.args in
    c.first.ensures
    ∙ ap (λ (w : List ℕ). Sbox.column w 0) (c.equations.ensures ∙ ap (Sbox.layer (sbox_of a.x)) c.alone.ensures)
    ∙ through a.x a.b (omega arith)
