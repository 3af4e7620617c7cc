-- The five parts, one behind the other.
use Rattle.check_book.proofs.Lines.{first, then}
use Rattle.check_book.proofs.accepted.Goals as goal

pub returns : goal.returns
returns c =
    then (then (then (then (first c.put_text-a.ensures) c.put_number-b.ensures.behind) c.put_text-c.ensures) c.put_number-d.ensures.behind)
    c.put_text.ensures
