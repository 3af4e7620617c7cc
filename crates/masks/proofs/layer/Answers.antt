-- The columns in the code are the matrix times the single bits: this is tested by computing.
use mathlib.Core.Path.{refl, sym, ap, ◌∙◌}
use Rattle.lbox.specs.Lbox
use Rattle.state.specs.State.{rows_of}
use Rattle.tables.specs.LBox.{matrix}
use Rattle.tables.specs.declared.LBox.{LBox}
use Rattle.masks.proofs.Masks.{layer_is}
use Rattle.masks.proofs.layer.Goals as goal

pub returns-in-Scream : goal.returns-in-Scream
unfolding Lbox.scream Lbox.times Lbox.dot
returns-in-Scream c =
    layer_is Lbox.scream refl refl c.args.s c.layer_by.result c.layer_by.ensures.low c.layer_by.ensures.high
    ∙ sym (ap (λ (b : LBox). Lbox.layer (matrix b) (rows_of c.args.s)) c.in-Scream.is)

pub returns-in-ScreamInverse : goal.returns-in-ScreamInverse
unfolding Lbox.scream_inverse Lbox.times Lbox.dot
returns-in-ScreamInverse c =
    let r = c.layer_by-in-ScreamInverse in
    layer_is Lbox.scream_inverse refl refl c.args.s r.result r.ensures.low r.ensures.high
    ∙ sym (ap (λ (b : LBox). Lbox.layer (matrix b) (rows_of c.args.s)) c.in-ScreamInverse.is)

pub returns-in-IScream : goal.returns-in-IScream
unfolding Lbox.iscream Lbox.times Lbox.dot
returns-in-IScream c =
    let r = c.layer_by-in-IScream in
    layer_is Lbox.iscream refl refl c.args.s r.result r.ensures.low r.ensures.high
    ∙ sym (ap (λ (b : LBox). Lbox.layer (matrix b) (rows_of c.args.s)) c.in-IScream.is)
