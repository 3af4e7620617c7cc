-- By the length of what was read.
use native.Mathlib.Omega.{arith}
use borrow.Author.Tests.{le-leb, lt-leb}
use lib.ListN.{length}
use Rattle.check_book.specs.Line.{line}
use Rattle.check_book.proofs.Lines.{first}
use Rattle.check_book.proofs.line.Goals as goal

pub returns-then-n-gt65520 : goal.returns-then-n-gt65520
unfolding line
returns-then-n-gt65520 c = rw (lt-leb (length c.args.input.now) 65520 (omega arith)) (first c.put_text.ensures)

pub returns : goal.returns
unfolding line
returns c = rw (le-leb (length c.args.input.now) 65520 (omega arith), ← c.checked.ensures) c.answer_line.ensures
