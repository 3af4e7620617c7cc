-- The blocks that are not last, and then the last.
use mathlib.Core.Path.{ap, ◌∙◌}
use Prim.Native.Nat.{◌-◌, ◌*◌, ◌/◌}
use native.Mathlib.Omega.{arith}
use lib.ListN.{length}
use lib.Seq.{paste}
use Rattle.bits.proofs.Lists.{part_rest}
use Rattle.calls.specs.Calls.{filled}
use Rattle.calls.specs.Tweak.{special_tweak}
use Rattle.batch.proofs.Headers.{header_none, header_tweaks_put, header-blocks-put}
use Rattle.batch.proofs.header.put.Goals as goal

pub returns-then-a-eq0 : goal.returns-then-a-eq0
returns-then-a-eq0 c =
    let a = c.args in
    let none = header_none a.nonce.now a.header.now c.if-a-eq0.true in
    (none _ a.tweaks.now, none _ a.blocks.now)

pub returns : goal.returns
returns c =
    let a = c.args in
    let h = a.header.now in
    let n = (length h - 1) / 16 in
    let tweak = c.special_tweak.ensures ∙ ap (special_tweak a.nonce.now) c.last_header_mark.ensures in
    let last = c.fill.ensures ∙ ap (filled 0x80) (part_rest (16 * n) h) in (
      c.put_at.ensures
          ∙ (λ j. paste (c.header_tweaks.ensures j) (16 * n) (tweak j) 16)
          ∙ header_tweaks_put a.nonce.now h n (omega arith) a.tweaks.now (omega arith) _ c.start.ensures,
      c.put_at-2.ensures
          ∙ (λ j. paste (c.copy.ensures j) (16 * n) (last j) 16)
          ∙ header-blocks-put a.nonce.now h n (omega arith) a.blocks.now,
    )
