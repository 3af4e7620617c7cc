-- The loop writes the number from its lowest byte on.
use mathlib.Core.Path.{◌≡◌}
use mathlib.Core.List.{◌++◌}
use Prim.Native.Nat.{◌-◌, ◌/◌, ◌^◌, ◌≤◌}
use lib.ListN.{take}
use Rattle.bits.specs.Bytes.{big_endian}
use Rattle.fields.proofs.number.put.Given as goal

abbrev pub invariant-loop-i : goal.invariant-loop-i
invariant-loop-i l = (l.i ≤ l.initial.i) × (l.x ≡ l.v / 256 ^ (l.initial.i - l.i)) × (l.out ≡ take l.i l.initial.out ++ big_endian (l.initial.i - l.i) l.v)
