-- By whether the digits have room.
use native.Mathlib.Omega.{arith}
use borrow.Author.Tests.{lt-leb}
use lib.ListN.{length}
use Rattle.decimal.specs.Decimal.{digits, digits_within}
use Rattle.decimal.proofs.Digits.{digits_within_all}
use Rattle.decimal.proofs.AtStart.{written_none}
use Rattle.decimal.proofs.put.Goals as goal

pub returns-then-out-count : goal.returns-then-out-count
unfolding digits_within
returns-then-out-count c =
    let a = c.args in
    rw (lt-leb (length (digits a.n)) (length a.out.now) (omega (arith, c.count.ensures, c.if-out-count.true)))
    (written_none a.out.now)

pub returns : goal.returns
returns c =
    let a = c.args in
    rw (digits_within_all (length a.out.now) a.n (omega (arith, c.count.ensures, c.if-out-count.false)))
    c.put_all.ensures
