-- What is taken from a copy of the counts of x is shared with x.
use mathlib.Core.Path.{◌≡◌, ap, ◌∙◌}
use mathlib.Core.List.{◌++◌}
use native.Mathlib.Omega.{arith}
use borrow.Author.Rules.{rules}
use lib.ListN.{get_or, set, take, drop}
use Rattle.bits.proofs.Fronts.{front_more}
use Rattle.trigrams.specs.Trigrams.{trigrams}
use Rattle.tally.specs.Code.{counted}
use Rattle.tally.proofs.Steps.{taken_shared, counted_left, counted_copy}
use Rattle.tally.proofs.Tally.compare.Goals as goal

pub loop-i-preserved : goal.loop-i-preserved
loop-i-preserved g c =
    let a = c.args.self.now in
    let i = c.loop-i.i in
    ap (λ d. set d i (get_or a.counts i 0)) c.loop-i.invariant ∙ front_more c.args.left.now a.counts i (search rules) (search rules)

pub returns-clause-is : goal.returns-clause-is
returns-clause-is g c =
    let a = c.args.self.now in
    let left = c.args.left.now in
    let copied = counted_copy a.nodes a.counts a.none left (search rules) in
    let done : c.loop-i.i ≡ a.nodes.used = omega arith in
    let copy : c.loop-i.left ≡ take a.nodes.used a.counts ++ drop a.nodes.used left =
    c.loop-i.invariant ∙ ap (λ k. take k a.counts ++ drop k left) done in
    λ x h.
    c.take_all.ensures.is
    ∙ taken_shared (counted a.nodes c.loop-i.left) x (trigrams c.args.t.now) (λ v. ap (λ l. counted a.nodes l v) copy ∙ copied v ∙ h.each v)

pub returns-clause-stay : goal.returns-clause-stay
returns-clause-stay g c =
    let a = c.args.self.now in
    λ x h. record { each = λ v. counted_left c.take_all.ensures.left a.counts v ∙ h.each v }
