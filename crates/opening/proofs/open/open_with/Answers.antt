-- The tag is made, compared, and only then is anything handed out.
use mathlib.Core.Path.{◌≡◌, sym, ◌∙◌}
use Rattle.bits.specs.Bytes.{same_bytes}
use Rattle.opening.specs.Open.{agrees}
use Rattle.opening.proofs.Opened.{with_tag, without_tag, agrees_is}
use Rattle.opening.proofs.open.open_with.Goals as goal
use Rattle.opening.proofs.open.open_with.Goals.{After-same}

same : (c : After-same)
    → let S = c.args.u.now.setting in
    c.same.result ≡ agrees S.suite.cipher S.suite.steps S.key S.nonce.now c.args.u.now.header.now c.args.sealed.now
same c =
    let a = c.args in
    let S = a.u.now.setting in
    c.same.ensures
    ∙ (λ i. same_bytes 16 (c.tag_of-tag.ensures.0 i) (c.block_at.ensures i))
    ∙ agrees_is S.suite S.key S.nonce.now a.u.now.header.now a.sealed.now c.requires.0.long

pub returns-then-not-same : goal.returns-then-not-same
returns-then-not-same c =
    let a = c.args in
    let S = a.u.now.setting in
    without_tag S.suite S.key S.nonce.now a.u.now.header.now a.sealed.now a.out.now S.nonce_short
    (sym (same (goal.at.returns-then-not-same c).After-same) ∙ c.if-not-same.true)

pub returns : goal.returns
returns c =
    let a = c.args in
    let S = a.u.now.setting in
    let is =
    with_tag S.suite S.key S.nonce.now a.u.now.header.now a.sealed.now a.out.now S.nonce_short
    (sym (same (goal.at.returns c).After-same) ∙ c.if-not-same.false) in
    record { answer = is.answer; output = c.hand_out.ensures ∙ is.output }
