-- The loop has added the first blocks, at most 64 at each turn.
use mathlib.Core.Path.{◌≡◌, ap, ◌∙◌}
use mathlib.Core.List.{List}
use Prim.Native.Nat.{ℕ, ◌+◌, ◌-◌, ◌*◌, ◌<◌, min}
use native.Mathlib.Omega.{arith}
use lib.ListN.{length, take, drop}
use Rattle.std.proofs.lemmas.Grind.{common_steps}
use Rattle.calls.specs.Calls.{sum_of}
use Rattle.calls.specs.Tweak.{header_tweak}
use Rattle.blockwise.specs.Blocks.{block}
use Rattle.sums.specs.Sums.{sum_from}
use Rattle.text_blocks.specs.Under.{enciphers}
use Rattle.mode.proofs.Headers.{sum_chunk}
use Rattle.mode.proofs.header.inner.Goals as goal

pub loop-i-init : goal.loop-i-init
unfolding sum_of
loop-i-init c =
    let a = c.args in
    let S = a.u.now.setting in
    let none : 0 ≡ min 0 a.n = omega arith in
    ap (λ m. sum_of m (λ i. enciphers S.suite S.key (header_tweak S.nonce.now i) (block a.u.now.header.now i))) none

pub loop-i-preserved : goal.loop-i-preserved
loop-i-preserved c =
    let a = c.args in
    let S = a.u.now.setting in
    let h = a.u.now.header.now in
    let n = 64 * c.loop-i.i in
    let k = c.min-k.result in
    let e : ℕ → List ℕ → List ℕ = λ i. enciphers S.suite S.key (header_tweak S.nonce.now i) in
    let of : ℕ → List ℕ = λ m. sum_of m (λ i. e i (block h i)) in
    let more-there : n < a.n = omega arith in
    let count : k ≡ min (a.n - n) 64 = grind (arith, common_steps) in
    let far : min n a.n ≡ n = omega arith in
    let place : c.after-first.result.0 ≡ n = omega arith in
    let further : n + k ≡ min (64 * (c.loop-i.i + 1)) a.n = omega arith in
    c.chunk-more.ensures
    ∙ ap (λ f. sum_from c.loop-i.sum k (λ i. e (f + i) (block (take (length h - 16 * n) (drop (16 * n) h)) i))) place
    ∙ sum_chunk e h c.loop-i.sum n k (16 * n) (omega arith) (c.loop-i.invariant ∙ ap of far)
    ∙ ap of further

pub returns : goal.returns
returns c =
    let a = c.args in
    let S = a.u.now.setting in
    let all : min (64 * c.loop-i.i) a.n ≡ a.n = omega arith in
    c.loop-i.invariant ∙ ap (λ m. sum_of m (λ i. enciphers S.suite S.key (header_tweak S.nonce.now i) (block a.u.now.header.now i))) all
