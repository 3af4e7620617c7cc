-- The power of ten that the number reaches says how many digits it has.
use mathlib.Core.Path.{◌≡◌, sym}
use native.Mathlib.Omega.{arith}
use Rattle.decimal.proofs.Digits.{length_one, length_power}
use Rattle.decimal.proofs.count.Goals as goal

pub returns-in-Some : goal.returns-in-Some
returns-in-Some c = sym (length_power c.in-Some.k c.args.n c.in-Some.ensures.power_le c.in-Some.ensures.next_power_gt)

pub returns-in-None : goal.returns-in-None
returns-in-None c =
    let none : c.args.n ≡ 0 = c.in-None.ensures.none in
    sym (length_one c.args.n (omega arith))
