-- The next chunk is the next block.
use mathlib.Core.Path.{◌≡◌, refl, sym, ap, ◌∙◌}
use mathlib.Core.List.{List, []}
use Prim.Native.Nat.{ℕ, ◌/◌}
use native.Mathlib.Omega.{arith}
use lib.ListN.{length, get_or}
use Rattle.bits.specs.Bytes.{added}
use Rattle.blockwise.specs.Blocks.{block}
use Rattle.blockwise.proofs.Each.{chunk_block}
use Rattle.sums.specs.Sums.{sum_from}
use Rattle.sums.proofs.Sums.{sum_more}
use Rattle.sums.proofs.add_blocks.Goals as goal

pub loop-b-init : goal.loop-b-init
unfolding sum_from
loop-b-init c = refl

pub loop-b-preserved : goal.loop-b-preserved
loop-b-preserved c =
    let s = c.args.s.now in
    let i = c.loop-b.b-index in
    let next : get_or c.as_chunks.result.0.now i [] ≡ block s i =
    ap (λ (x : List (List ℕ)). get_or x i []) c.as_chunks.ensures.front ∙ chunk_block (length s / 16) s i [] (omega arith) in
    c.add_to.ensures ∙ (λ j. added (c.loop-b.invariant j) (next j)) ∙ sym (sum_more c.args.sum i (block s))

pub returns : goal.returns
returns c =
    let all : c.loop-b.b-index ≡ length c.args.s.now / 16 = omega arith in
    c.loop-b.invariant ∙ ap (λ (k : ℕ). sum_from c.args.sum k (block c.args.s.now)) all
