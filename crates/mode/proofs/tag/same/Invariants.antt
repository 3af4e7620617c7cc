-- The loop has compared the first i bytes.
use mathlib.Core.Path.{◌≡◌}
use lib.Dec.{eqb}
use Rattle.bits.specs.Bytes.{same_bytes}
use Rattle.mode.proofs.tag.same.Given as goal

abbrev pub invariant-loop-i : goal.invariant-loop-i
invariant-loop-i l = eqb l.d 0 ≡ same_bytes l.i l.a l.b
