-- The tag is made and compared; the first window has the text.
use Rattle.std.specs.Prelude.{Ok}
use mathlib.Core.Path.{◌≡◌, sym, ap, ◌∙◌}
use mathlib.Core.Bool.{Bool}
use mathlib.Core.List.{◌++◌}
use native.Mathlib.Omega.{arith}
use Rattle.opening.specs.Open.{opened, agrees, then_tag}
use Rattle.verifying.specs.Within.{held_in}
use Rattle.verifying.proofs.Windows.{window_held}
use Rattle.verifying.proofs.Apart.{apart_agrees, apart_opened}
use Rattle.verifying.proofs.within.within_tested.Goals as goal
use Rattle.verifying.proofs.within.within_tested.Goals.{After-same}

same : (c : After-same)
    → let S = c.args.u.now.setting in
    c.same.result ≡ agrees S.suite.cipher S.suite.steps S.key S.nonce.now c.args.u.now.header.now (c.args.c.now ++ c.args.tag)
same c =
    let a = c.args in
    let S = a.u.now.setting in
    c.same.ensures
    ∙ apart_agrees a.c.now a.tag (omega arith) S.suite S.key S.nonce.now a.u.now.header.now c.tag_of-made.result c.tag_of-made.ensures.0

-- whichever it is, the text is there
held : (c : After-same)
    → let S = c.args.u.now.setting in
    let text = opened S.suite.cipher S.suite.steps S.key S.nonce.now c.args.u.now.header.now (c.args.c.now ++ c.args.tag) in
    c.tag_of-made.new.work ≡ held_in (Ok tt) text c.args.work.now
held c =
    let a = c.args in
    let S = a.u.now.setting in
    c.tag_of-made.ensures.1
    ∙ window_held S.suite S.key S.nonce.now S.nonce_short a.c.now c.requires.0 a.work.now c.requires.1
    ∙ ap (λ l. held_in (Ok tt) l a.work.now) (sym (apart_opened a.c.now a.tag (omega arith) S.suite S.key S.nonce.now a.u.now.header.now))

pub returns-then-not-same : goal.returns-then-not-same
returns-then-not-same c =
    let s = (goal.at.returns-then-not-same c).After-same in
    (ap (λ (b : Bool). then_tag (Ok tt) b) (sym c.if-not-same.true ∙ same s), held s)

pub returns : goal.returns
returns c =
    let s = (goal.at.returns c).After-same in
    (ap (λ (b : Bool). then_tag (Ok tt) b) (sym c.if-not-same.false ∙ same s), held s)
