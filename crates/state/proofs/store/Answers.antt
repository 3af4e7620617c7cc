-- Each word gives its bytes, the lowest first.
use Rattle.std.proofs.Common.{sym}
use Rattle.state.proofs.Words.{bytes_of_words}
use Rattle.state.proofs.store.Goals as goal

pub returns : goal.returns
returns c =
    rw (c.copy_from_slice.ensures.after, c.copy_from_slice-2.ensures.after, c.to_le_bytes.ensures, c.to_le_bytes-2.ensures) (sym (bytes_of_words c.args.s))
