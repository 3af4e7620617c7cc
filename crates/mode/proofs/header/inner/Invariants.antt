-- The loop has added the first blocks, at most 64 at each turn.
use mathlib.Core.Path.{◌≡◌}
use Prim.Native.Nat.{◌*◌, min}
use Rattle.calls.specs.Calls.{sum_of}
use Rattle.calls.specs.Tweak.{header_tweak}
use Rattle.blockwise.specs.Blocks.{block}
use Rattle.text_blocks.specs.Under.{enciphers}
use Rattle.mode.proofs.header.inner.Given as goal

abbrev pub invariant-loop-i : goal.invariant-loop-i
invariant-loop-i l =
    let S = l.u.setting in
    l.sum ≡ sum_of (min (64 * l.i) l.n) (λ i. enciphers S.suite S.key (header_tweak S.nonce.now i) (block l.u.header.now i))
