-- One digit, or the last one behind those of the tenth part. The measure is the number.
use Prim.Native.Nat.{◌/◌, ◌<◌}
use native.Mathlib.Omega.{arith}
use borrow.Author.Rules.{rules}
use lib.ListN.{length}
use Rattle.decimal.specs.Decimal.{digits}
use Rattle.decimal.proofs.Digits.{length_more, digits_some}
use Rattle.decimal.proofs.AtStart.{written_long, digit_alone, digit_behind}
use Rattle.decimal.proofs.+put_all.Goals as goal

pub bounds-out-0 : goal.bounds-out-0
bounds-out-0 t c = omega (arith, digits_some c.args.n)

pub returns-then-n-lt10 : goal.returns-then-n-lt10
returns-then-n-lt10 t c = search (rules, digit_alone)

pub put_all-at-requires : goal.put_all-at-requires
put_all-at-requires t c =
    (omega arith, omega (arith, length_more c.args.n (omega arith)))

-- the digits of the tenth part stand at the start
pub bounds-out-at : goal.bounds-out-at
bounds-out-at t c =
    let room : length (digits (c.args.n / 10)) < length c.args.out.now = omega (arith, length_more c.args.n (omega arith)) in
    omega (arith, written_long c.put_all-at.ensures (omega arith))

pub returns : goal.returns
returns t c =
    digit_behind c.args.n c.last_digit-2.result c.last_digit-2.ensures c.args.out.now (omega arith) (omega arith)
    c.put_all-at.new.out c.put_all-at.result c.put_all-at.ensures
