-- The tests, then the walk, then what stands where it ends.
use Rattle.suites.specs.Answer.{Answer}
use mathlib.Core.Path.{◌≡◌, sym, ap, ◌∙◌}
use Prim.Native.Nat.{◌+◌, ◌-◌, ◌≤◌}
use native.Mathlib.Omega.{arith}
use borrow.Author.Rules.{rules}
use lib.ListN.{length, drop, length-drop}
use Rattle.kinds.specs.Kind.{kind_of, book_kind}
use Rattle.parser.specs.Frame.{frame_at}
use Rattle.opening_fields.specs.Opening.{after_opening}
use Rattle.std.proofs.lemmas.Result.{err_from_is_err_and}
use Rattle.bits.proofs.Lists.{part_rest}
use Rattle.opening_fields.proofs.Openings.{opening_passed}
use Rattle.walk.specs.declared.Place.{Place}
use Rattle.walk.specs.Walk.{walk_to}
use Rattle.walk.specs.Clear.{clear_of, clear_unless, placed_clear_of, placed_clear, unit_clear_of, unit_clear}
use Rattle.walk.proofs.Places.{walked_within}
use Rattle.walk.proofs.clear.unit.Goals as goal

pub slice_bounds-to-count : goal.slice_bounds-to-count
slice_bounds-to-count c = let h = (opening_passed c.args.book.now (sym c.in_ok-tests.ensures)).1 in search rules

pub slice_bounds-to-start : goal.slice_bounds-to-start
slice_bounds-to-start c = let h = (opening_passed c.args.book.now (sym c.in_ok-tests.ensures)).1 in search rules

pub overflow_add-place : goal.overflow_add-place
overflow_add-place c =
    let s = c.args.book.now in
    let passed = (opening_passed s (sym c.in_ok-tests.ensures)).1 in
    let ended : c.to-place.result ≡ walk_to (kind_of (book_kind s)) c.args.k (drop 16 s) =
    c.to-place.ensures ∙ (λ i. walk_to (kind_of (c.of_book.ensures i)) c.args.k (part_rest 16 s i)) in
    let within : c.to-place.result.at ≤ length s - 16 =
    rw ended (omega (arith, walked_within (kind_of (book_kind s)) (drop 16 s) c.args.k, length-drop 16 s)) in
    search rules

pub returns-in_err-tests : goal.returns-in_err-tests
unfolding unit_clear unit_clear_of placed_clear_of
returns-in_err-tests c =
    let s = c.args.book.now in
    let kind = kind_of (book_kind s) in
    let p = walk_to kind c.args.k (after_opening s) in
    let e = err_from_is_err_and c.from_residual.result c.from_residual.ensures.1 in
    rw (e.1, e.2)
    (ap (λ (v : Answer). clear_unless v (clear_of kind (16 + p.at) (drop (16 + p.at) s) (frame_at kind p.number (drop (16 + p.at) s))))
    c.in_err-tests.ensures)

pub returns : goal.returns
unfolding placed_clear unit_clear unit_clear_of after_opening
returns c =
    let s = c.args.book.now in
    let ended : c.to-place.result ≡ walk_to (kind_of (book_kind s)) c.args.k (drop 16 s) =
    c.to-place.ensures ∙ (λ i. walk_to (kind_of (c.of_book.ensures i)) c.args.k (part_rest 16 s i)) in
    c.placed.ensures ∙ ap (λ (p : Place). placed_clear_of (kind_of (book_kind s)) p.number (16 + p.at) s) ended
