-- Turned, and put.
use mathlib.Core.List.{List}
use mathlib.Core.Path.{ap, ◌∙◌}
use Prim.Native.Nat.{ℕ}
use lib.Seq.{paste}
use Rattle.blockwise.proofs.Each.{strung_ext}
use Rattle.planes.proofs.Turned.{rows_turned}
use Rattle.planes.specs.Planes.{lane}
use Rattle.planes.specs.Loaded.{rows_in}
use Rattle.state.specs.Block.{bytes}
use Rattle.planes.proofs.storing.store.Goals as goal

pub returns : goal.returns
returns c =
    let put = c.put.ensures
    ∙ ap (λ (l : List ℕ). paste c.args.d.now c.args.at l 1024)
    (strung_ext 64 _ (λ b. bytes (lane c.args.x.now b))
    (λ b l. ap (λ (y : List (List ℕ)). bytes (rows_in y b)) c.turn.ensures ∙ ap bytes (rows_turned c.args.x.now b l))) in
    (c.turn.ensures, put)
