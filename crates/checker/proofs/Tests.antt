-- What check answers, by the tests before the frames.
use Rattle.suites.specs.Answer.{Answer}
use mathlib.Core.Path.{◌≡◌, ap}
use mathlib.Core.List.{List}
use Prim.Native.Nat.{ℕ, suc}
use lib.ListN.{length}
use Rattle.kinds.specs.Kind.{kind_of, book_kind}
use Rattle.parser.specs.Frame.{most_units}
use Rattle.opening_fields.specs.Opening.{opening_bytes, after_opening, check_tests}
use Rattle.checker.specs.Check.{check_from, after_tests, check_answer_of, check_answer}

pub by_tests : (key s : List ℕ) (t : Answer) → t ≡ check_tests (length key) s
    → after_tests t (check_from (kind_of (book_kind s)) key (opening_bytes s) (suc most_units) 0 0 (after_opening s)) ≡ check_answer key s
unfolding check_answer check_answer_of
by_tests key s t e = ap (λ (v : Answer). after_tests v (check_from (kind_of (book_kind s)) key (opening_bytes s) (suc most_units) 0 0 (after_opening s))) e
