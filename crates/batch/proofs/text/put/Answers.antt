-- The tweaks and the blocks of what is not last, and then the last one's.
use mathlib.Core.Path.{◌≡◌, refl, sym, ap, ◌∙◌}
use mathlib.Core.List.{List}
use Prim.Native.Nat.{ℕ, ◌+◌, ◌-◌, ◌*◌, ◌/◌}
use native.Mathlib.Omega.{arith}
use lib.ListN.{length}
use lib.Seq.{paste}
use Rattle.calls.specs.Tweak.{special_tweak, blocks_of}
use Rattle.batch.specs.Batch.{put_first}
use Rattle.batch.proofs.Put.{put_none}
use Rattle.batch.proofs.Texts.{mark_of_rest, text_tweaks_put, text_blocks_put}
use Rattle.batch.proofs.text.put.Goals as goal

pub returns-then-n-eq0 : goal.returns-then-n-eq0
returns-then-n-eq0 c =
    let a = c.args in
    let none : (g : ℕ → List ℕ) (buffer : List ℕ) → buffer ≡ put_first (blocks_of (length a.s.now)) g buffer =
    λ g buffer. put_none g buffer ∙ ap (λ (n : ℕ). put_first (blocks_of n) g buffer) (sym c.if-n-eq0.true) in
    (none _ a.tweaks.now, none _ a.blocks.now)

pub returns : goal.returns
returns c =
    let a = c.args in
    let s = a.s.now in
    let n = (length s - 1) / 16 in
    let first = a.first.0 in
    let m = 16 * first + length s in
    let mark = c.last_text_mark.ensures ∙ mark_of_rest first (length s) (omega arith) in
    let tweak = c.special_tweak.ensures ∙ ap (special_tweak a.nonce.now) mark in (
      c.put_at.ensures
          ∙ (λ j. paste (c.text_tweaks.ensures j) (16 * n) (tweak j) 16)
          ∙ text_tweaks_put m first s refl n (omega arith) a.nonce.now c.requires.0 a.tweaks.now,
      c.put_at-2.ensures
          ∙ (λ j. paste (c.copy.ensures j) (16 * n) (c.length_block.ensures j) 16)
          ∙ text_blocks_put m first s refl n (omega arith) a.blocks.now,
    )
