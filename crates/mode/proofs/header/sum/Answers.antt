-- The inner blocks, and then the last, filled, under its own tweak.
use mathlib.Core.Path.{ap, ◌∙◌}
use Prim.Native.Nat.{◌-◌, ◌*◌, ◌/◌}
use native.Mathlib.Omega.{arith}
use lib.ListN.{length}
use Rattle.bits.specs.Bytes.{added}
use Rattle.calls.specs.Calls.{filled}
use Rattle.calls.specs.Tweak.{special_tweak}
use Rattle.text_blocks.specs.Under.{enciphers}
use Rattle.mode.proofs.Headers.{header_none, header-all}
use Rattle.bits.proofs.Lists.{part_rest}
use Rattle.mode.proofs.header.sum.Goals as goal

pub returns-then-a-eq0 : goal.returns-then-a-eq0
returns-then-a-eq0 c =
    let a = c.args in
    let S = a.u.now.setting in
    header_none (enciphers S.suite S.key) S.nonce.now a.u.now.header.now (omega arith)

pub returns : goal.returns
returns c =
    let a = c.args in
    let S = a.u.now.setting in
    let h = a.u.now.header.now in
    let n = (length h - 1) / 16 in
    let tweak = c.special_tweak-t.ensures ∙ ap (special_tweak S.nonce.now) c.last_header_mark.ensures in
    let last = c.fill-last.ensures ∙ ap (filled 0x80) (part_rest (16 * n) h) in
    let one = c.encipher_one.ensures ∙ (λ i. enciphers S.suite S.key (tweak i) (last i)) in
    c.add.ensures ∙ (λ i. added (c.inner-whole.ensures i) (one i)) ∙ header-all (enciphers S.suite S.key) S.nonce.now h n (omega arith)
