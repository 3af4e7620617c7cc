-- What the tests before a book's frames tell that are passed.
use Rattle.std.specs.Prelude.{Ok}
use mathlib.Core.Path.{◌≡◌}
use mathlib.Core.List.{List}
use Prim.Native.Nat.{ℕ, ◌≤◌}
use borrow.Author.Tests.{eqb-true}
use lib.Dec.{eqb}
use lib.ListN.{length}
use Rattle.suites.specs.declared.refusal.Refusal.TheVariants.{KeyLength}
use Rattle.limits.proofs.Passed.{unless_passed}
use Rattle.opening_fields.specs.Opening.{opening_bytes, opening_tests, check_tests}
use Rattle.opening_fields.proofs.Openings.{opening_passed, front_long, front_listed}
use Rattle.seals.specs.Parts.{Under}

pub tested_under : (key s : List ℕ) → check_tests (length key) s ≡ Ok tt → (16 ≤ length s) × Under key (opening_bytes s)
unfolding check_tests
tested_under key s e =
    let tests = unless_passed (eqb (length key) 16) KeyLength (opening_tests s) e in (
      (opening_passed s tests.1).1,
      record { key_long = eqb-true (length key) 16 tests.0; opening_long = front_long s tests.1; listed_suite = front_listed s tests.1 },
    )
