-- The calls are put and run, and what they gave is placed and added up.
use mathlib.Core.Path.{◌≡◌, refl, ap, ◌∙◌}
use mathlib.Core.List.{List, ◌++◌}
use Prim.Native.Nat.{ℕ, ◌+◌, ◌-◌, ◌*◌}
use native.Mathlib.Omega.{arith}
use lib.ListN.{length, take, drop, replicate}
use lib.Seq.{paste}
use Rattle.bits.specs.Bytes.{added}
use Rattle.calls.specs.Tweak.{special_tweak, blocks_of, tag_mark}
use Rattle.batch.proofs.Run.{tweaks_in_turn, blocks_in_turn, run_is}
use Rattle.batch.proofs.Texts.{rest_placed}
use Rattle.batch.proofs.sealing.run.Goals as goal

pub returns : goal.returns
returns c =
    let a = c.args in
    let S = a.u.now.setting in
    let h = a.u.now.header.now in
    let first = a.first.0 in
    let s = a.s.now in
    let m = 16 * first + length s in
    let at = 16 * c.blocks_of-h.result in
    let end = at + 16 * c.blocks_of.result in
    let text_there : at ≡ 16 * blocks_of (length h) = omega arith in
    let tag-there : end ≡ at + 16 * blocks_of (length s) = omega arith in
    let whole : length a.checksum ≡ 16 = omega arith in
    let z : List ℕ = replicate 2048 0 in
    let rest : List ℕ = drop (16 * (blocks_of (length h) + blocks_of (length s) + 1)) z in
    let bytes : c.place.result + length s ≡ m = omega arith in
    let tweak = c.special_tweak.ensures ∙ ap (special_tweak S.nonce.now) (c.tag_mark.ensures ∙ ap tag_mark bytes) in
    let x = c.put.new.tweaks in
    let y = c.put-2.new.tweaks in
    let tweaks =
    c.put_at.ensures
    ∙ ap (λ (b : List ℕ). paste (take at x ++ (y ++ drop (2048 - at) (drop at x))) end b 16) tweak
    ∙ tweaks_in_turn S.nonce.now S.nonce_short h a.checksum whole m first s refl at end text_there tag-there
    2048 z x y (omega arith) c.put.ensures.0 c.put-2.ensures.0 in
    let blocks =
    c.put_at-2.ensures
    ∙ blocks_in_turn S.nonce.now S.nonce_short h a.checksum whole m first s refl at end text_there tag-there
    2048 z c.put.new.blocks c.put-2.new.blocks (omega arith) c.put.ensures.1 c.put-2.ensures.1 in
    let is =
    run_is S.nonce.now S.nonce_short h a.checksum whole m first s refl at end text_there tag-there S.suite S.key
    c.put_at.new.d c.put_at-2.new.d c.cipher_blocks.new.blocks rest rest tweaks blocks c.cipher_blocks.ensures
    (omega arith) (omega arith) in (
      c.add.ensures ∙ (λ j. added (c.block_at.ensures j) (c.add_blocks-sum.ensures j)) ∙ is.0,
      c.place-2.ensures ∙ rest_placed s (take (end - at) (drop at c.cipher_blocks.new.blocks)) m first refl ∙ is.1,
    )
