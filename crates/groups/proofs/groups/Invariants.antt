-- The loop has done the first i groups.
use mathlib.Core.Path.{◌≡◌}
use Prim.Native.Nat.{◌*◌}
use lib.ListN.{length}
use Rattle.blockwise.specs.Blocks.{each_of}
use Rattle.groups.specs.Group.{through}
use Rattle.groups.proofs.groups.Given as goal

abbrev pub invariant-loop-i : goal.invariant-loop-i
invariant-loop-i l =
    (length l.blocks ≡ length l.initial.blocks)
    × (l.blocks ≡ each_of (through l.way) (64 * l.i) l.tweaks l.initial.blocks)
