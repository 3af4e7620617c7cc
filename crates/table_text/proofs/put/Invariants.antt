-- The loop fills the text from the front, three bytes a turn.
use Prim.Native.Nat.{◌*◌}
use Rattle.bits.proofs.Lists.{Filled}
use Rattle.table_text.proofs.Bytes.{byte_at}
use Rattle.table_text.proofs.put.Given as goal

abbrev pub invariant-loop-i : goal.invariant-loop-i
invariant-loop-i l = Filled 768 (byte_at l.table) (3 * l.i) l.out
