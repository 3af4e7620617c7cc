-- The loop has put the rows of n units, and goes on from the place behind them.
use mathlib.Core.Path.{◌≡◌}
use Prim.Native.Nat.{◌*◌}
use lib.ListN.{length}
use Rattle.kinds.specs.Kind.{kind_of}
use Rattle.page.proofs.Done.{RowsDone}
use Rattle.page.proofs.unit_rows.Given as goal

abbrev pub invariant-loop-n : goal.invariant-loop-n
invariant-loop-n l = record {
  done : RowsDone (kind_of l.r.kind) l.r.key.now l.r.front.now l.initial.prepared.typed.now l.s l.units l.initial.out l.place (12 * l.n) l.n l.out;
  prepared : l.prepared.typed.now ≡ l.initial.prepared.typed.now;
  room : length l.text ≡ length l.initial.text;
}
