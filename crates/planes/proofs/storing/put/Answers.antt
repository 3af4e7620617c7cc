-- The loop has put the first b blocks.
use mathlib.Core.List.{List}
use mathlib.Core.Path.{◌≡◌, ap, ◌∙◌}
use Prim.Native.Nat.{ℕ, ◌+◌, ◌*◌}
use native.Mathlib.Omega.{arith}
use lib.Seq.{paste}
use Rattle.planes.proofs.Writing.{rows_sixteen, paste_strung}
use Rattle.planes.specs.Loaded.{rows_in}
use Rattle.state.specs.Block.{bytes}
use Rattle.planes.proofs.storing.put.Goals as goal

abbrev blocks : List (List ℕ) → ℕ → List ℕ
blocks y b = bytes (rows_in y b)

pub loop-b-preserved : goal.loop-b-preserved
loop-b-preserved c =
    let y = c.args.y.now in
    let block = c.store.ensures ∙ ap bytes c.state_in.ensures in
    c.put_at.ensures
    ∙ (λ i. paste (c.loop-b.invariant i) (c.args.at + 16 * c.loop-b.b) (block i) 16)
    ∙ paste_strung c.args.d.now c.args.at c.loop-b.b (blocks y) (rows_sixteen y) (omega (arith, c.requires))

pub returns : goal.returns
returns c =
    let all : c.loop-b.b ≡ 64 = omega arith in
    rw all at c.loop-b.invariant
