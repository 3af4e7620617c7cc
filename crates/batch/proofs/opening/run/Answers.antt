-- The header's calls are put, the one for the text's last block behind them, if it has one, and all are run.
use mathlib.Core.Path.{refl, ap, ◌∙◌}
use mathlib.Core.List.{List}
use Prim.Native.Nat.{ℕ, ◌+◌, ◌*◌, ◌/◌}
use native.Mathlib.Omega.{arith}
use lib.ListN.{length, take, drop, replicate}
use lib.Seq.{paste}
use Rattle.blockwise.specs.Blocks.{block, each_block}
use Rattle.calls.specs.Calls.{length_block}
use Rattle.calls.specs.Tweak.{special_tweak, last_text_mark}
use Rattle.calls.proofs.Tweaks.{length_tweak}
use Rattle.sums.specs.Sums.{sum_from}
use Rattle.text_blocks.specs.Under.{enciphers}
use Rattle.batch.proofs.Known.{sum_alone, run_is, sum_is, more_is}
use Rattle.batch.proofs.opening.run.Goals as goal

pub returns-then-m-eq0 : goal.returns-then-m-eq0
returns-then-m-eq0 c =
    let u = c.args.u.now in
    let S = u.setting in
    let k = c.blocks_of-h.ensures in
    let o = c.cipher_blocks.new.blocks in
    let z : List ℕ = replicate 1024 0 in (
      c.add_blocks.ensures
          ∙ (λ j. sum_from (replicate 16 0) (length (take (16 * k j) o) / 16) (block (take (16 * k j) o)))
          ∙ sum_alone S.suite S.key S.nonce.now S.nonce_short u.header.now z z (omega arith)
          (c.cipher_blocks.ensures
          ∙ (λ j. each_block (enciphers S.suite S.key) (take (16 * k j) (c.put.ensures.0 j)) (c.put.ensures.1 j))),
      λ some. absurd (omega arith),
    )

pub returns : goal.returns
unfolding length_block
returns c =
    let m = c.args.m in
    let r = c.args.r in
    let u = c.args.u.now in
    let S = u.setting in
    let h = u.header.now in
    let k = c.blocks_of-h.ensures in
    let tweak = c.special_tweak.ensures ∙ ap (special_tweak S.nonce.now) c.last_text_mark.ensures in
    let tweaks = c.put_at.ensures ∙ (λ j. paste (c.put.ensures.0 j) (16 * k j) (tweak j) 16) in
    let blocks = c.put_at-2.ensures ∙ (λ j. paste (c.put.ensures.1 j) (16 * k j) (c.length_block.ensures j) 16) in
    let special = special_tweak S.nonce.now (last_text_mark m) in
    let long = length_tweak S.nonce.now (last_text_mark m) 0 (omega (arith, S.nonce_short)) in
    let b = length_block r in
    let z : List ℕ = replicate 1024 0 in
    let outs =
    c.cipher_blocks-2.ensures
    ∙ (λ j. each_block (enciphers S.suite S.key) (take (16 * k j + 16) (tweaks j)) (blocks j))
    ∙ run_is S.suite S.key S.nonce.now S.nonce_short h special b long refl z z (omega arith) in (
      c.add_blocks-2.ensures
          ∙ (λ j. sum_from (replicate 16 0) (length (take (16 * k j) (outs j)) / 16) (block (take (16 * k j) (outs j))))
          ∙ sum_is S.suite S.key S.nonce.now S.nonce_short h special b long refl z,
      λ some.
          c.block_at.ensures
          ∙ (λ j. take 16 (drop (16 * k j) (outs j)))
          ∙ more_is S.suite S.key S.nonce.now S.nonce_short h special b long refl z,
    )
