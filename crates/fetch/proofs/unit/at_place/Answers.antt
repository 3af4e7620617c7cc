-- What stands at the place.
use mathlib.Core.Path.{◌≡◌, ap, ◌∙◌}
use Prim.Native.Nat.{◌-◌}
use borrow.Author.Rules.{rules}
use lib.ListN.{length, take, drop, length-drop}
use Rattle.kinds.specs.Kind.{kind_of}
use Rattle.parser.specs.Frame.{frame_at}
use Rattle.bits.proofs.Lists.{part_rest}
use Rattle.walk.proofs.Places.{drop_least}
use Rattle.fetch.specs.Fetch.{outcome_here, text_at, next_of}
use Rattle.fetch.proofs.Handed.{next_same}
use mathlib.Core.List.{List}
use Prim.Native.Nat.{ℕ, min}
use Rattle.fetch.proofs.unit.at_place.Goals as goal

-- from the place on; past the end nothing
rest : (at from : ℕ) (s : List ℕ) → from ≡ min at (length s) → take (length s - from) (drop from s) ≡ drop at s
rest at from s e = part_rest from s ∙ ap (λ k. drop k s) e ∙ drop_least at s

pub fetch_frame-requires : goal.fetch_frame-requires
fetch_frame-requires c = rw (rest c.args.at c.min-from.result c.args.book.now c.min-from.ensures, length-drop) (search rules)

pub returns : goal.returns
returns c =
    let a = c.args in
    let r = a.r.now in
    let kind = kind_of r.kind in
    let e = rest a.at c.min-from.result a.book.now c.min-from.ensures in
    next_same a.out.now
    (λ i. outcome_here kind r.key.now r.front.now a.n (e i) (length a.out.now))
    (λ i. text_at kind r.key.now r.front.now a.n (e i))
    (λ i. next_of kind a.at (frame_at kind a.n (e i)))
    c.fetch_frame.ensures
