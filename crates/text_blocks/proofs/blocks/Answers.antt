-- The loop has done the first blocks, at most 64 at each turn.
use mathlib.Core.Path.{◌≡◌, ap, ◌∙◌}
use mathlib.Core.List.{List, ◌++◌, append-nil}
use Prim.Native.Nat.{ℕ, ◌+◌, ◌-◌, ◌*◌, ◌/◌, ◌≤◌, ◌<◌, min}
use native.Mathlib.Omega.{arith}
use lib.ListN.{length, take, drop}
use Rattle.std.proofs.lemmas.Grind.{common_steps}
use Rattle.calls.specs.Tweak.{text_tweak}
use Rattle.calls.proofs.Tweaks.{length_tweak}
use Rattle.blockwise.specs.Blocks.{block, strung}
use Rattle.text_blocks.specs.Under.{numbered, first_blocks}
use Rattle.bits.proofs.Lists.{part_rest}
use Rattle.sums.proofs.Sums.{part_none}
use Rattle.text_blocks.proofs.Chunks.{either_blockwise, left_is, done_is, more_done}
use Rattle.text_blocks.proofs.blocks.Goals as goal

pub loop-i-init : goal.loop-i-init
unfolding strung
loop-i-init c =
    let a = c.args in
    let none : 0 ≡ min 0 (length a.s.now / 16) = omega arith in
    ap (λ m. first_blocks a.ahead a.u.now.suite a.u.now.key a.u.now.nonce.now a.first.0 m a.s.now) none

pub loop-i-preserved : goal.loop-i-preserved
loop-i-preserved c =
    let a = c.args in
    let s = a.s.now in
    let w = length s / 16 in
    let n = 64 * c.loop-i.i in
    let k = c.min-k.result in
    let S = c.loop-i.s in
    let by : ℕ → List ℕ → List ℕ = numbered a.ahead a.u.now.suite a.u.now.key a.u.now.nonce.now in
    let each : ℕ → List ℕ → List ℕ = λ i. by (a.first.0 + i) in
    let long : (i : ℕ) (b : List ℕ) → length b ≡ 16 → length (each i b) ≡ 16 = λ i b h.
    (either_blockwise a.ahead a.u.now.suite a.u.now.key).long
    (text_tweak a.u.now.nonce.now (a.first.0 + i)) b (length_tweak a.u.now.nonce.now 0x00 (a.first.0 + i) (omega arith)) h in
    let of : ℕ → List ℕ = λ m. first_blocks a.ahead a.u.now.suite a.u.now.key a.u.now.nonce.now a.first.0 m s in
    let more-there : n < w = omega arith in
    let count : k ≡ min (w - n) 64 = grind (arith, common_steps) in
    let room : 16 * n ≤ length s = omega arith in
    let far : min n w ≡ n = omega arith in
    let so-far : S ≡ of n = c.loop-i.invariant ∙ ap of far in
    -- what is left of the blocks is as it was
    let part : take (length S - 16 * n) (drop (16 * n) S) ≡ drop (16 * n) s =
    part_rest (16 * n) S ∙ ap (drop (16 * n)) so-far ∙ left_is each long s n 0 room in
    let before = strung n (λ i. each i (block s i)) in
    let more = strung k (λ i. each (n + i) (block (drop (16 * n) s) i)) ++ drop (16 * k) (drop (16 * n) s) in
    let front : take (16 * n) S ≡ before = ap (take (16 * n)) so-far ∙ done_is each long s n k room in
    let number : (i : ℕ) → c.after.result.0 + i ≡ a.first.0 + (n + i) = λ i. omega arith in
    let new : c.chunk.new.s ≡ more = c.chunk.ensures ∙ (λ j. strung k (λ i. by (number i j) (block (part j) i)) ++ drop (16 * k) (part j)) in
    let further : n + k ≡ min (64 * (c.loop-i.i + 1)) w = omega arith in
    (λ j. front j ++ (new j ++ part_none (16 * n) S j))
    ∙ ap (λ l. before ++ l) (append-nil more)
    ∙ more_done each long s n k room
    ∙ ap of further

pub returns : goal.returns
returns c =
    let a = c.args in
    let w = length a.s.now / 16 in
    let all : min (64 * c.loop-i.i) w ≡ w = omega arith in
    c.loop-i.invariant ∙ ap (λ m. first_blocks a.ahead a.u.now.suite a.u.now.key a.u.now.nonce.now a.first.0 m a.s.now) all
