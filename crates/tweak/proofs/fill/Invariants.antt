-- The loop has made the first i tweaks.
use mathlib.Core.Path.{◌≡◌}
use mathlib.Core.List.{◌++◌}
use Prim.Native.Nat.{◌+◌, ◌*◌}
use lib.ListN.{drop}
use Rattle.blockwise.specs.Blocks.{strung}
use Rattle.calls.specs.Tweak.{tweak}
use Rattle.tweak.proofs.fill.Given as goal

abbrev pub invariant-loop-i : goal.invariant-loop-i
invariant-loop-i l = l.tweaks ≡ strung l.i (λ j. tweak l.nonce l.mark (l.first + j)) ++ drop (16 * l.i) l.initial.tweaks
