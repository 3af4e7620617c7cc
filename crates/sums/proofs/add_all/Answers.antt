-- The whole blocks, and then the last if it is shorter.
use mathlib.Core.Path.{◌≡◌, ap, ◌∙◌}
use Prim.Native.Nat.{◌*◌, ◌/◌}
use native.Mathlib.Omega.{arith}
use lib.ListN.{length, drop}
use Rattle.std.proofs.lemmas.Bool.Decides.{nat_tests}
use Rattle.bits.specs.Bytes.{added}
use Rattle.calls.specs.Calls.{filled}
use Rattle.sums.proofs.Sums.{all_whole, all_but_last}
use Rattle.sums.proofs.add_all.Goals as goal

pub returns-then-is_empty : goal.returns-then-is_empty
returns-then-is_empty c =
    c.add_blocks-whole.ensures ∙ all_whole c.args.sum c.args.s.now (grind (arith, nat_tests))

pub returns : goal.returns
returns c =
    let last : c.fill.result ≡ filled 0 (drop (length c.args.s.now / 16 * 16) c.args.s.now) = c.fill.ensures ∙ ap (filled 0) c.as_chunks.ensures.back in
    c.add.ensures ∙ (λ i. added (c.add_blocks-whole.ensures i) (last i)) ∙ all_but_last c.args.sum c.args.s.now (λ e. grind (arith, nat_tests))
