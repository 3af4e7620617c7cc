-- The part stands within the book.
use Prim.Native.Nat.{◌+◌, ◌≤◌}
use borrow.Author.Rules.{rules}
use lib.ListN.{length}
use Rattle.walk.proofs.Places.{ciphertext_within}
use Rattle.walk.proofs.ciphertext.ciphertext.Goals as goal

pub overflow_add-result : goal.overflow_add-result
overflow_add-result c =
    let within : c.place-part.result.at + c.place-part.result.len ≤ length c.args.book.now =
    rw c.place-part.ensures (ciphertext_within c.args.k c.args.book.now) in
    search rules

pub slice_bounds-result-end : goal.slice_bounds-result-end
slice_bounds-result-end c =
    let within : c.place-part.result.at + c.place-part.result.len ≤ length c.args.book.now =
    rw c.place-part.ensures (ciphertext_within c.args.k c.args.book.now) in
    search rules
