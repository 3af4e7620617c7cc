-- The loop has done the first blocks, at most 64 at each turn.
use mathlib.Core.Path.{◌≡◌}
use Prim.Native.Nat.{◌*◌, min}
use Rattle.text_blocks.specs.Under.{first_blocks}
use Rattle.text_blocks.proofs.blocks.Given as goal

abbrev pub invariant-loop-i : goal.invariant-loop-i
invariant-loop-i l = l.s ≡ first_blocks l.ahead l.u.suite l.u.key l.u.nonce.now l.first.0 (min (64 * l.i) l.n) l.initial.s
