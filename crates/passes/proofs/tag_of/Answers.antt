-- The header's sum and the pad are known first. The first window stays in `work`; the other blocks are only added.
use mathlib.Core.Path.{◌≡◌, sym, ◌∙◌}
use mathlib.Core.List.{◌++◌}
use Prim.Native.Nat.{◌-◌, ◌*◌, min}
use native.Mathlib.Omega.{arith}
use lib.ListN.{length, take, drop}
use lib.Seq.{length-take-le}
use Rattle.std.proofs.lemmas.Grind.{common_steps}
use Rattle.calls.specs.Pieces.{tag_from}
use Rattle.calls.proofs.ByBlocks.{opening_tag_is}
use Rattle.text_blocks.specs.Under.{enciphers, deciphers}
use Rattle.text_blocks.proofs.Chunks.{enciphers_blockwise, deciphers_blockwise}
use Rattle.text_blocks.proofs.Parts.{pad_is}
use Rattle.sealing.specs.Passes.{text_part}
use Rattle.passes.proofs.Windows.{part_of_rest, sum_none, sum_all}
use Rattle.passes.proofs.tag_of.Goals as goal

pub invariant_of-text : goal.invariant_of-text
invariant_of-text c =
    let a = c.args in
    let S = a.u.now.setting in
    record {
      small = c.requires.0;
      padded = λ some. pad_is S.suite S.key S.nonce.now (length a.c.now) _ (c.known-known.ensures.1 some) c.last_bytes.ensures.0;
    }

pub add_window-first-requires : goal.add_window-first-requires
add_window-first-requires c =
    let a = c.args in
    let S = a.u.now.setting in
    let m = length a.c.now in
    let w = length a.work.now in
    let least : c.min-n.result ≡ min m w = grind (arith, common_steps) in
    let n : length (take c.min-n.result a.work.now) ≡ min (m - 16 * 0) w =
    length-take-le c.min-n.result a.work.now (omega arith) ∙ least ∙ omega arith in (
      rw (n, c.start-start.ensures) (part_of_rest m 0 w (omega arith) c.requires.0 c.requires.1),
      rw c.start-start.ensures (sum_none S.suite S.key S.nonce.now a.c.now),
    )

pub returns : goal.returns
returns c =
    let a = c.args in
    let S = a.u.now.setting in
    let m = length a.c.now in
    let e = enciphers S.suite S.key in
    let d = deciphers S.suite S.key in
    let all = c.add_rest-all.ensures ∙ sum_all S.suite S.key S.nonce.now a.c.now S.nonce_short c.requires.0 in
    let least : c.min-n.result ≡ min m (length a.work.now) = grind (arith, common_steps) in
    let n = length-take-le c.min-n.result a.work.now (omega arith) ∙ least in
    let first = c.add_window-first.ensures.1 ∙ (λ i. text_part S.suite S.key S.nonce.now a.c.now (c.start-start.ensures i) (n i)) in (
      c.make.ensures
          ∙ (λ i. tag_from e S.nonce.now m (all i) (c.known-known.ensures.0 i))
          ∙ sym
          (opening_tag_is e d (enciphers_blockwise S.suite S.key) S.nonce.now S.nonce_short a.u.now.header.now
          (deciphers_blockwise S.suite S.key) a.c.now),
      (λ i. first i ++ drop (least i) a.work.now),
    )
