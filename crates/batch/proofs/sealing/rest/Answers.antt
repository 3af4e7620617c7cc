-- A header of many blocks is added up by itself, and its sum is added to the tag.
use mathlib.Core.Path.{◌∙◌}
use Prim.Native.Nat.{◌+◌, ◌*◌}
use native.Mathlib.Omega.{arith}
use lib.ListN.{length}
use Rattle.bits.specs.Bytes.{added}
use Rattle.calls.specs.Pieces.{header_sum}
use Rattle.text_blocks.specs.Under.{enciphers}
use Rattle.text_blocks.proofs.Chunks.{enciphers_blockwise}
use Rattle.batch.proofs.Run.{tag_later}
use Rattle.batch.proofs.sealing.rest.Goals as goal

pub returns : goal.returns
returns c =
    let a = c.args in
    let S = a.u.now.setting in
    let e = enciphers S.suite S.key in (
      c.add.ensures
          ∙ (λ j. added (c.run-tag.ensures.0 j) (c.sum-sum.ensures j))
          ∙ tag_later e (enciphers_blockwise S.suite S.key) S.nonce.now S.nonce_short (16 * a.first.0 + length a.s.now) a.checksum
          (header_sum e S.nonce.now a.u.now.header.now) (omega arith),
      c.run-tag.ensures.1,
    )
