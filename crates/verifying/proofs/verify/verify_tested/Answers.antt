-- The tag is made and compared; the first window has the text's first bytes.
use Rattle.std.specs.Prelude.{Ok}
use mathlib.Core.Path.{◌≡◌, refl, sym, ap, ◌∙◌}
use mathlib.Core.List.{[], ◌∷◌, ◌++◌}
use Prim.Native.Nat.{ℕ, ◌<◌}
use native.Mathlib.Omega.{arith}
use lib.Dec.{lit≤}
use lib.ListN.{get_or}
use Rattle.opening.specs.Open.{opened, agrees, then_tag}
use Rattle.verifying.specs.Verify.{verify_report}
use Rattle.verifying.proofs.Windows.{window_byte}
use Rattle.verifying.proofs.Apart.{apart_agrees, apart_opened}
use Rattle.verifying.proofs.verify.verify_tested.Goals as goal
use Rattle.verifying.proofs.verify.verify_tested.Goals.{After-same}

same : (c : After-same)
    → let S = c.args.u.now.setting in
    c.same.result ≡ agrees S.suite.cipher S.suite.steps S.key S.nonce.now c.args.u.now.header.now (c.args.c.now ++ c.args.tag)
same c =
    let a = c.args in
    let S = a.u.now.setting in
    c.same.ensures
    ∙ apart_agrees a.c.now a.tag (omega arith) S.suite S.key S.nonce.now a.u.now.header.now c.tag_of-made.result c.tag_of-made.ensures.0

pub returns-then-not-same : goal.returns-then-not-same
returns-then-not-same c =
    let a = c.args in
    let S = a.u.now.setting in
    let text = opened S.suite.cipher S.suite.steps S.key S.nonce.now a.u.now.header.now (a.c.now ++ a.tag) in
    ap (λ b. verify_report (then_tag (Ok tt) b) text) (sym c.if-not-same.true ∙ same (goal.at.returns-then-not-same c).After-same)

pub returns : goal.returns
returns c =
    let a = c.args in
    let S = a.u.now.setting in
    let text = opened S.suite.cipher S.suite.steps S.key S.nonce.now a.u.now.header.now (a.c.now ++ a.tag) in
    let byte : (i : ℕ) → i < 1024 → get_or c.tag_of-made.new.work i 0 ≡ get_or text i 0 =
    λ i h.
    ap (λ l. get_or l i 0) c.tag_of-made.ensures.1
    ∙ window_byte S.suite S.key S.nonce.now S.nonce_short a.c.now c.requires 1024 refl i h
    ∙ ap (λ l. get_or l i 0) (sym (apart_opened a.c.now a.tag (omega arith) S.suite S.key S.nonce.now a.u.now.header.now)) in
    (λ i. Ok (byte 0 (lit≤ tt) i ∷ byte 1 (lit≤ tt) i ∷ []))
    ∙ ap (λ b. verify_report (then_tag (Ok tt) b) text) (sym c.if-not-same.false ∙ same (goal.at.returns c).After-same)
