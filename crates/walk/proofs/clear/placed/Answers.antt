-- The tests, then what stands there; past the end as at the end.
use Rattle.suites.specs.Answer.{Answer}
use mathlib.Core.Path.{◌≡◌, ap, ◌∙◌}
use Prim.Native.Nat.{ℕ, ◌-◌}
use mathlib.Core.List.{List}
use Rattle.opening_fields.specs.Opening.{opening_tests}
use lib.ListN.{length, take, drop}
use Rattle.kinds.specs.Kind.{kind_of, book_kind}
use Rattle.parser.specs.Frame.{frame_at}
use Rattle.std.proofs.lemmas.Result.{err_from_is_err_and}
use Rattle.bits.proofs.Lists.{part_rest}
use Rattle.walk.specs.Clear.{clear_of, clear_unless, placed_clear_of, placed_clear}
use Rattle.walk.proofs.Places.{drop_least}
use Rattle.walk.proofs.clear.placed.Goals as goal

-- by what was tested
by_tests : (n at : ℕ) (s : List ℕ) (t : Answer) → t ≡ opening_tests s → let kind = kind_of (book_kind s) in
    clear_unless t (clear_of kind at (drop at s) (frame_at kind n (drop at s))) ≡ placed_clear n at s
unfolding placed_clear placed_clear_of
by_tests n at s t e =
    let kind = kind_of (book_kind s) in
    ap (λ (v : Answer). clear_unless v (clear_of kind at (drop at s) (frame_at kind n (drop at s)))) e

pub returns-in_err-tests : goal.returns-in_err-tests
returns-in_err-tests c =
    let p = err_from_is_err_and c.from_residual.result c.from_residual.ensures.1 in
    rw (p.1, p.2) (by_tests c.args.n c.args.at c.args.book.now _ c.in_err-tests.ensures)

pub returns : goal.returns
returns c =
    let s = c.args.book.now in
    let from = c.min-from.result in
    let rest : take (length s - from) (drop from s) ≡ drop c.args.at s =
    part_rest from s ∙ ap (λ n. drop n s) c.min-from.ensures ∙ drop_least c.args.at s in
    let kind = c.of_book.ensures in
    c.frame_clear.ensures
    ∙ (λ i. clear_of (kind_of (kind i)) c.args.at (rest i) (frame_at (kind_of (kind i)) c.args.n (rest i)))
    ∙ by_tests c.args.n c.args.at s _ c.in_ok-tests.ensures
