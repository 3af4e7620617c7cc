-- The loop writes the number from its lowest byte on.
use mathlib.Core.Path.{◌≡◌}
use mathlib.Core.List.{◌++◌}
use Prim.Native.Nat.{◌+◌, ◌-◌, ◌/◌, ◌^◌, ◌≤◌}
use lib.ListN.{take, drop}
use Rattle.bits.specs.Bytes.{big_endian}
use Rattle.tweak.proofs.put_number.Given as goal

abbrev pub invariant-loop-i : goal.invariant-loop-i
invariant-loop-i l =
    (l.n ≤ l.i) × (l.i ≤ 16) × (l.x ≡ l.number / 256 ^ (16 - l.i))
    × (l.d ≡ take (l.at + l.i) l.initial.d ++ (big_endian (16 - l.i) l.number ++ drop (l.at + 16) l.initial.d))
