-- The tests, then what stands at the place.
use Rattle.std.specs.Prelude.{Ok, Err}
use mathlib.Core.Path.{refl, sym}
use lib.ListN.{length, drop}
use Rattle.kinds.specs.Kind.{kind_of, book_kind}
use Rattle.parser.specs.Frame.{frame_at}
use Rattle.fetch.specs.Fetch.{outcome_here, text_at, next_of, placed_answer, placed_buffer}
use Rattle.fetch.proofs.Handed.{next_same, tests_hand}
use Rattle.std.proofs.lemmas.Result.{err_from_is_err_and}
use Rattle.fetch.proofs.unit.fetch_placed.Goals as goal

pub returns-in_err-r : goal.returns-in_err-r
unfolding placed_answer placed_buffer
returns-in_err-r c =
    let a = c.args in
    let p = err_from_is_err_and c.from_residual.result c.from_residual.ensures.1 in
    rw (p.1, p.2)
    (tests_hand (kind_of (book_kind a.book.now)) a.key.now a.book.now a.n a.at a.out.now (Err c.in_err-r.field-0.0)
    (sym c.in_err-r.ensures.tests) (refl, refl))

pub returns : goal.returns
unfolding placed_answer placed_buffer
returns c =
    let a = c.args in
    let o = a.out.now in
    let s = a.book.now in
    let m = c.in_ok-r.ensures.made in
    tests_hand (kind_of (book_kind s)) a.key.now s a.n a.at o (Ok tt) (sym c.in_ok-r.ensures.tests)
    (next_same o
    (λ i. outcome_here (kind_of (m.kind_is i)) (m.key_is i) (m.front_is i) a.n (drop a.at s) (length o))
    (λ i. text_at (kind_of (m.kind_is i)) (m.key_is i) (m.front_is i) a.n (drop a.at s))
    (λ i. next_of (kind_of (m.kind_is i)) a.at (frame_at (kind_of (m.kind_is i)) a.n (drop a.at s)))
    c.at_place.ensures)
