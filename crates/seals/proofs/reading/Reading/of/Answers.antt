-- The tests, and what they tell.
use mathlib.Core.Path.{refl, sym}
use lib.Seq.{length-take-le}
use Rattle.opening_fields.specs.Opening.{opening_bytes}
use Rattle.seals.proofs.Tested.{tested_under}
use Rattle.seals.proofs.reading.Reading.of.Goals as goal

pub slice_bounds-result-end : goal.slice_bounds-result-end
slice_bounds-result-end c = sym (length-take-le 16 c.args.book.now (tested_under c.args.key.now c.args.book.now (sym c.in_ok-tests_under.ensures)).0)

pub invariant_of-result : goal.invariant_of-result
unfolding opening_bytes
invariant_of-result c = record { under = (tested_under c.args.key.now c.args.book.now (sym c.in_ok-tests_under.ensures)).1 }

pub returns-clause-made : goal.returns-clause-made
unfolding opening_bytes
returns-clause-made c = record { kind_is = c.of_book.ensures; key_is = refl; front_is = refl }
