-- The ciphertext's place is among what is said in the clear.
use mathlib.Core.Path.{ap, ◌∙◌}
use Rattle.walk.proofs.Places.{part_said, clear_part}
use Rattle.walk.proofs.ciphertext.place.Goals as goal

pub returns-in-Ok : goal.returns-in-Ok
returns-in-Ok c = ap part_said c.in-Ok.ensures ∙ clear_part c.args.k c.args.book.now

pub returns-in-Err : goal.returns-in-Err
returns-in-Err c = ap part_said c.in-Err.ensures ∙ clear_part c.args.k c.args.book.now
