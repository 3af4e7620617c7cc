-- The text is copied, and sealed in its place.
use mathlib.Core.Path.{◌≡◌, refl, sym, ap, ◌∙◌}
use mathlib.Core.List.{◌++◌}
use Prim.Native.Nat.{◌+◌}
use lib.ListN.{length, take, drop}
use lib.Seq.{take_at, drop-drop, drop-append_seam}
use Rattle.sealing.specs.Seal.{sealed}
use Rattle.sealing.proofs.seal.write_sealed.Goals as goal

pub returns : goal.returns
returns c =
    let a = c.args in
    let S = a.u.now.setting in
    let t = a.text.now in
    let m = length t in
    let out = a.out.now in
    let text : take m c.copy.new.d ≡ t = ap (take m) c.copy.ensures ∙ take_at t (drop m out) m refl in
    let behind : drop (m + 16) c.copy.new.d ≡ drop (m + 16) out =
    ap (drop (m + 16)) c.copy.ensures ∙ sym (drop-drop 16 m (t ++ drop m out)) ∙ ap (drop 16) (drop-append_seam t (drop m out)) ∙ drop-drop 16 m out in
    let made =
    c.seal_there.ensures.2
    ∙ (λ j. sealed S.suite.cipher S.suite.steps S.key S.nonce.now a.u.now.header.now (text j) ++ behind j) in
    (c.seal_there.ensures.0, c.seal_there.ensures.1, made)
