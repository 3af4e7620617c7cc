-- Whole blocks before the text's end; or up to it, with the last block by itself.
use mathlib.Core.Path.{◌≡◌, refl, ap, ◌∙◌}
use mathlib.Core.Bool.{false}
use mathlib.Core.List.{List, ◌++◌, append-nil}
use Prim.Native.Nat.{ℕ, ◌+◌, ◌-◌, ◌*◌, ◌/◌, ◌%◌, ◌<◌}
use native.Mathlib.Omega.{arith}
use lib.ListN.{length, take, drop}
use lib.Seq.{take_at, drop_at}
use Rattle.bits.specs.Bytes.{added}
use Rattle.calls.specs.Calls.{length_block}
use Rattle.calls.specs.Tweak.{text_tweak, special_tweak, last_text_mark}
use Rattle.blockwise.specs.Blocks.{block, strung}
use Rattle.blockwise.proofs.Each.{strung_whole, block_long}
use Rattle.calls.proofs.Tweaks.{length_tweak}
use Rattle.text_blocks.specs.Under.{enciphers, deciphers, numbered}
use Rattle.text_blocks.proofs.Chunks.{deciphers_blockwise}
use Rattle.text_blocks.proofs.Parts.{before_whole, last_there, front_blocks, through_before, through_none, through_last}
use Rattle.bits.proofs.Lists.{part_rest}
use Rattle.sums.proofs.Sums.{part_none}
use Rattle.text_blocks.proofs.through.Goals as goal

pub returns-then-end-m : goal.returns-then-end-m
returns-then-end-m c =
    let a = c.args in
    let n = length a.s.now in
    let whole : n % 16 ≡ 0 = before_whole a.m (16 * a.first.0 + n) n c.requires.0.whole (omega arith) in
    c.blocks-then-end-m.ensures
    ∙ through_before (deciphers a.u.now.suite a.u.now.key) (enciphers a.u.now.suite a.u.now.key) a.u.now.nonce.now a.m a.first.0 a.s.now
    (omega arith) whole

pub returns-then-n-eq0 : goal.returns-then-n-eq0
returns-then-n-eq0 c =
    let a = c.args in
    through_none (deciphers a.u.now.suite a.u.now.key) (enciphers a.u.now.suite a.u.now.key) a.u.now.nonce.now a.m a.first.0 a.s.now c.if-n-eq0.true

pub returns : goal.returns
returns c =
    let a = c.args in
    let s = a.s.now in
    let n = length s in
    let k = (n - 1) / 16 in
    let at = 16 * k in
    let g : ℕ → List ℕ → List ℕ = λ i b. numbered false a.u.now.suite a.u.now.key a.u.now.nonce.now (a.first.0 + i) b in
    let tweak : (i : ℕ) → length (text_tweak a.u.now.nonce.now (a.first.0 + i)) ≡ 16 = λ i. length_tweak a.u.now.nonce.now 0x00 (a.first.0 + i) (omega arith) in
    let some : 0 < n = omega arith in
    let R = c.blocks-2.new.s in
    let made : R ≡ strung k (λ i. g i (block s i)) = c.blocks-2.ensures ∙ front_blocks g s k (omega arith) in
    let long : length R ≡ at =
    ap length made
    ∙ strung_whole k (λ i. g i (block s i))
    (λ i l.
    (deciphers_blockwise a.u.now.suite a.u.now.key).long (text_tweak a.u.now.nonce.now (a.first.0 + i)) (block s i) (tweak i) (block_long s i (omega arith))) in
    let end : 16 * a.first.0 + n ≡ a.m = omega arith in
    let last = last_there a.m a.first.0 n end some in
    let added-to : List ℕ → List ℕ = λ b. enciphers a.u.now.suite a.u.now.key (special_tweak a.u.now.nonce.now (last_text_mark a.m)) b in
    let pad = added-to (length_block (n - at)) in
    let W = R ++ drop at s in
    let left : take (length W - at) (drop at W) ≡ drop at s = part_rest at W ∙ drop_at R (drop at s) at long in
    let new : c.add_to.new.d ≡ added (drop at s) pad =
    c.add_to.ensures ∙ (λ j. added (left j) ((c.requires.1 some end ∙ ap (λ r. added-to (length_block r)) last) j)) in
    (λ j. (take_at R (drop at s) at long ∙ made) j ++ (new j ++ part_none at W j))
    ∙ ap (λ l. strung k (λ i. g i (block s i)) ++ l) (append-nil (added (drop at s) pad))
    ∙ through_last (deciphers a.u.now.suite a.u.now.key) (enciphers a.u.now.suite a.u.now.key) a.u.now.nonce.now a.m a.first.0 s
    k refl some end
