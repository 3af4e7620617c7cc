-- The three parts, one behind the other.
use mathlib.Core.Path.{subst}
use mathlib.Core.List.{◌++◌}
use Prim.Native.Nat.{ℕ}
use Rattle.decimal.specs.Decimal.{digits, AtStart}
use Rattle.decimal.specs.Ascii.{ascii}
use Rattle.check_book.proofs.Lines.{first, then}
use Rattle.check_book.proofs.refused.Goals as goal

pub returns : goal.returns
returns c =
    subst
    (λ (n : ℕ). AtStart (ascii "refused " ++ digits n ++ ascii "\n") c.args.out.now c.put_text.new.out c.put_text.result)
    c.number.ensures
    (then (then (first c.put_text-a.ensures) c.put_number-b.ensures.behind) c.put_text.ensures)
