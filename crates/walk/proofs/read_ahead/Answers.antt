-- The remainder is 0 for every number that two bytes make, by one computed test.
use mathlib.Core.Path.{◌≡◌}
use mathlib.Core.Bool.{Bool, ◌&&◌}
use Prim.Native.Nat.{ℕ, ◌+◌, ◌*◌, ◌%◌, ◌≤◌, ◌<◌}
use native.Mathlib.Omega.{arith}
use lib.Dec.{eqb, leb, leb→le, eqb→eq}
use lib.ListN.{get_or}
use Rattle.bits.proofs.Tests.{all_at, and_left, and_right}
use Rattle.walk.proofs.read_ahead.Goals as goal

abbrev small : ℕ → Bool
small b = leb (b * b) 260100 && leb (b * b * b) 132651000

abbrev none : ℕ → Bool
none b = eqb ((b * b * b + 2 * b) % 3) 0

-- of two bytes' sum
square : (b : ℕ) → b < 511 → b * b ≤ 260100
square b h = leb→le (b * b) 260100 (and_left (leb (b * b) 260100) (leb (b * b * b) 132651000) (all_at 511 small tt b h))

cube : (b : ℕ) → b < 511 → b * b * b ≤ 132651000
cube b h = leb→le (b * b * b) 132651000 (and_right (leb (b * b) 260100) (leb (b * b * b) 132651000) (all_at 511 small tt b h))

remainder : (b : ℕ) → b < 511 → (b * b * b + 2 * b) % 3 ≡ 0
remainder b h = eqb→eq ((b * b * b + 2 * b) % 3) 0 (all_at 511 none tt b h)

pub returns : goal.returns
returns c =
    remainder (get_or c.args.s.now 1024 0 + get_or c.args.s.now 1152 0) (omega (arith, c.type_inv.s 1024, c.type_inv.s 1152))
