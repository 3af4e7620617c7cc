-- The tweaks are made, and every block goes under its own.
use mathlib.Core.Path.{◌≡◌, ap, ◌∙◌}
use mathlib.Core.List.{List}
use Prim.Native.Nat.{ℕ, ◌+◌, ◌*◌}
use native.Mathlib.Omega.{arith}
use lib.ListN.{length, take, drop, replicate}
use Rattle.blockwise.specs.Blocks.{each_block}
use Rattle.calls.specs.Tweak.{text_tweak}
use Rattle.calls.proofs.Tweaks.{length_tweak}
use Rattle.text_blocks.specs.Under.{either}
use Rattle.text_blocks.proofs.Chunks.{each_strung}
use Rattle.text_blocks.proofs.chunk.Goals as goal

pub returns : goal.returns
returns c =
    let a = c.args in
    let tweaks : ℕ → List ℕ = λ i. text_tweak a.u.now.nonce.now (a.first.0 + i) in
    let long : (i : ℕ) → length (tweaks i) ≡ 16 = λ i. length_tweak a.u.now.nonce.now 0x00 (a.first.0 + i) (omega arith) in
    let by = either a.ahead a.u.now.suite a.u.now.key in
    c.cipher_blocks.ensures
    ∙ ap (λ t. each_block by (take (16 * a.k) t) a.s.now) c.text_tweaks.ensures
    ∙ each_strung a.k tweaks long (drop (16 * a.k) (replicate 1024 0)) a.s.now c.requires.1 by
