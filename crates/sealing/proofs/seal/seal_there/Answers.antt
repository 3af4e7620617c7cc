-- The text goes through the cipher in its place, its last blocks with the header's and the tag's; the tag is put behind it.
use mathlib.Core.Path.{◌≡◌, refl, ap, ◌∙◌}
use mathlib.Core.List.{◌++◌}
use Prim.Native.Nat.{ℕ, ◌+◌, ◌-◌, ◌*◌, ◌/◌}
use native.Mathlib.Omega.{arith}
use lib.ListN.{length, take, drop, length-drop}
use lib.Seq.{paste, length-take-le}
use Rattle.calls.specs.Pieces.{through, header_sum, tag_from}
use Rattle.text_blocks.specs.Under.{enciphers}
use Rattle.text_blocks.proofs.Parts.{through_before}
use Rattle.sealing.proofs.Sealed.{checksum_is, second_is, through_parts, sealed_written}
use Rattle.sealing.proofs.seal.seal_there.Goals as goal

pub returns : goal.returns
returns c =
    let a = c.args in
    let S = a.u.now.setting in
    let h = a.u.now.header.now in
    let N = S.nonce.now in
    let e = enciphers S.suite S.key in
    let m = a.m in
    let n = c.front-n.result in
    let out = a.out.now in
    let t = take m out in
    let R = c.blocks-2.new.s in
    let text_long : length t ≡ m = length-take-le m out (omega arith) in
    let front : length (take n out) ≡ n = length-take-le n out (omega arith) in
    -- the first bytes, whole blocks, as long as they were
    let front_long : length R ≡ n = c.blocks-2.auto.s ∙ front in
    let first : R ≡ through e e N m 0 (take n out) =
    c.blocks-2.ensures
    ∙ through_before e e N m c.start-start.result.0 (take n out) (omega arith) (omega arith)
    ∙ ap (λ (k : ℕ). through e e N m k (take n out)) c.start-start.ensures in
    -- the rest, which ends with the text
    let rest = second_is m n out R (omega arith) (omega arith) front_long in
    let number : c.after.result.0 ≡ n / 16 = omega arith in
    let size : 16 * c.after.result.0 + length (take (m - n) (drop n (R ++ drop n out))) ≡ m =
    ap (λ (k : ℕ). 16 * c.after.result.0 + k) (ap length rest ∙ length-drop n t) ∙ omega arith in
    let second = c.rest-tag.ensures.1 ∙ (λ j. through e e N (size j) (number j) (rest j)) in
    let check = c.add_all-checksum.ensures ∙ checksum_is t in
    let tag = c.rest-tag.ensures.0 ∙ (λ j. tag_from e N (size j) (check j) (header_sum e N h)) in
    let text = through_parts m n out R (omega arith) (omega arith) front_long e e N (n / 16) (omega arith) c.rest-tag.new.s first second in
    let made =
    c.put_at.ensures
    ∙ (λ j. paste (text j) m (tag j) 16)
    ∙ sealed_written S.suite S.key N h t S.nonce_short m text_long out in
    (refl, (λ j. c.blocks_of.ensures j + c.blocks_of-2.ensures j + 1), made)
