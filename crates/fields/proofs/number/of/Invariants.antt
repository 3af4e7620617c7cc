-- The loop has the number of the first bytes.
use mathlib.Core.Path.{◌≡◌}
use lib.ListN.{take}
use Rattle.bits.specs.Bytes.{number_of}
use Rattle.fields.proofs.number.of.Given as goal

abbrev pub invariant-loop-b : goal.invariant-loop-b
invariant-loop-b l = l.v ≡ number_of (take l.b-index l.b-items)
