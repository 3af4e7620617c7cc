-- The loop has added the blocks before the next, at most 64 at each turn.
use mathlib.Core.Path.{◌≡◌}
use Prim.Native.Nat.{◌+◌, ◌*◌, min}
use lib.ListN.{length}
use Rattle.calls.specs.Tweak.{blocks_of}
use Rattle.sealing.specs.Passes.{text_sum}
use Rattle.passes.proofs.Ciphertext.add_rest.Given as goal

abbrev pub invariant-loop-i : goal.invariant-loop-i
invariant-loop-i l =
    l.all ≡ text_sum l.self.setting.suite l.self.setting.key l.self.setting.nonce.now l.self.bytes.now
    (min (l.first.0 + 64 * l.i) (blocks_of (length l.self.bytes.now)))
