-- The tests, then the walk, then what stands where it ends.
use Rattle.std.specs.Prelude.{Ok, Err}
use mathlib.Core.Path.{◌≡◌, refl, sym, ap, ◌∙◌}
use Prim.Native.Nat.{◌+◌, ◌-◌, ◌≤◌}
use borrow.Author.Rules.{rules}
use lib.ListN.{length, take, drop, length-drop}
use Rattle.kinds.specs.Kind.{kind_of, book_kind}
use Rattle.parser.specs.Frame.{frame_at}
use Rattle.opening_fields.specs.Opening.{opening_bytes, after_opening}
use Rattle.bits.proofs.Lists.{part_rest}
use Rattle.seals.proofs.Tested.{tested_under}
use Rattle.walk.specs.Walk.{walk_to}
use Rattle.walk.proofs.Places.{walked_within}
use Rattle.fetch.specs.Fetch.{outcome_here, text_at, next_of, fetch_answer, fetch_buffer}
use Rattle.fetch.proofs.Handed.{hands_same, hands_without, ends_at, there, tests_fetch}
use Rattle.std.proofs.lemmas.Result.{err_from_is_err_and}
use mathlib.Core.List.{List}
use Prim.Native.Nat.{ℕ}
use Rattle.seals.specs.declared.reading.Reading.{Reading}
use Rattle.seals.specs.Reading.{ReadingOf}
use Rattle.opening_fields.specs.Opening.{check_tests}
use Rattle.walk.specs.declared.Place.{Place}
use Rattle.fetch.specs.Fetch.{FetchAnswer, PlacedAnswer}
use Rattle.fetch.specs.Hands.{HandsNext, without_next}
use Rattle.fetch.proofs.unit.fetch.Goals as goal

-- what stands where the walk ends, without the place of the next unit
by_walk : (key s : List ℕ) (k : ℕ) (o : List ℕ) (b : Reading) (p : Place) {r : PlacedAnswer} {left : List ℕ} {q : FetchAnswer}
    → check_tests (length key) s ≡ Ok tt → ReadingOf key s b → p ≡ walk_to (kind_of b.kind) k (take (length s - 16) (drop 16 s))
    → HandsNext (outcome_here (kind_of b.kind) b.key.now b.front.now p.number (drop (16 + p.at) s) (length o))
    (text_at (kind_of b.kind) b.key.now b.front.now p.number (drop (16 + p.at) s))
    (next_of (kind_of b.kind) (16 + p.at) (frame_at (kind_of b.kind) p.number (drop (16 + p.at) s))) o r left
    → q ≡ without_next r → (q ≡ fetch_answer key s k o) × (left ≡ fetch_buffer key s k o)
unfolding fetch_answer fetch_buffer after_opening
by_walk key s k o b p done made walk h e =
    let own = kind_of (book_kind s) in
    let end = ends_at own key s k in
    let same = there own key s k in
    let walked : p ≡ end = walk ∙ (λ i. walk_to (kind_of (made.kind_is i)) k (part_rest 16 s i)) in
    tests_fetch own key s k o (Ok tt) done
    (hands_same o
    ((λ i. outcome_here (kind_of (made.kind_is i)) (made.key_is i) (made.front_is i) (walked i).number (drop (16 + (walked i).at) s) (length o))
    ∙ ap (λ y. outcome_here own key (opening_bytes s) end.number y (length o)) same)
    ((λ i. text_at (kind_of (made.kind_is i)) (made.key_is i) (made.front_is i) (walked i).number (drop (16 + (walked i).at) s))
    ∙ ap (text_at own key (opening_bytes s) end.number) same)
    (hands_without
    (outcome_here (kind_of b.kind) b.key.now b.front.now p.number (drop (16 + p.at) s) (length o))
    (text_at (kind_of b.kind) b.key.now b.front.now p.number (drop (16 + p.at) s)) o
    (next_of (kind_of b.kind) (16 + p.at) (frame_at (kind_of b.kind) p.number (drop (16 + p.at) s))) h e))

pub slice_bounds-to-count : goal.slice_bounds-to-count
slice_bounds-to-count c = (tested_under c.args.key.now c.args.book.now (sym c.in_ok-r.ensures.tests)).0

pub slice_bounds-to-start : goal.slice_bounds-to-start
slice_bounds-to-start c = let h = (tested_under c.args.key.now c.args.book.now (sym c.in_ok-r.ensures.tests)).0 in search rules

pub overflow_add-p : goal.overflow_add-p
overflow_add-p c =
    let s = c.args.book.now in
    let y = take (length s - 16) (drop 16 s) in
    let h : c.to-p.result.at ≤ length y = rw c.to-p.ensures (walked_within (kind_of c.in_ok-r.r.kind) y c.args.k) in
    let d = ap length (part_rest 16 s) ∙ length-drop 16 s in
    let l = (tested_under c.args.key.now s (sym c.in_ok-r.ensures.tests)).0 in
    search rules

pub returns-in_err-r : goal.returns-in_err-r
unfolding fetch_answer fetch_buffer
returns-in_err-r c =
    let a = c.args in
    let p = err_from_is_err_and c.from_residual.result c.from_residual.ensures.1 in
    rw (p.1, p.2)
    (tests_fetch (kind_of (book_kind a.book.now)) a.key.now a.book.now a.k a.out.now (Err c.in_err-r.field-0.0)
    (sym c.in_err-r.ensures.tests) (refl, refl))

pub returns-in_err-fetched : goal.returns-in_err-fetched
returns-in_err-fetched c =
    let a = c.args in
    let p = err_from_is_err_and c.from_residual-in_err-fetched.result c.from_residual-in_err-fetched.ensures.1 in
    rw (p.1, p.2)
    (by_walk a.key.now a.book.now a.k a.out.now c.in_ok-r.r c.to-p.result (sym c.in_ok-r.ensures.tests) c.in_ok-r.ensures.made
    c.to-p.ensures c.at_place.ensures (ap without_next (sym c.in_err-fetched.was)))

pub returns : goal.returns
returns c =
    let a = c.args in
    by_walk a.key.now a.book.now a.k a.out.now c.in_ok-r.r c.to-p.result (sym c.in_ok-r.ensures.tests) c.in_ok-r.ensures.made
    c.to-p.ensures c.at_place.ensures (ap without_next (sym c.in_ok-fetched.was))
