-- Eight words make a state.
use Prim.Native.Nat.{ℕ, ◌^◌, ◌<◌}
use native.Mathlib.Decide.{dec_lt}
use native.Mathlib.Omega.{arith}
use lib.ListN.{get_or}
use lib.Pow.{pow_pos}
use Rattle.bits.specs.Table.{tab}
use Rattle.bits.proofs.Lists.{get_or_tab, get_or_tab_out, length_tab}
use Rattle.state.specs.Rows.{Rows}

pub tab_rows : (f : ℕ → ℕ) → ((i : ℕ) → f i < 2 ^ 16) → Rows (tab 8 f)
tab_rows f h = record { long = length_tab 8 f; words = words }
  where
    words : (i : ℕ) → get_or (tab 8 f) i 0 < 2 ^ 16
    words i = at (dec_lt i 8)
      where
        at : Dec (i < 8) → get_or (tab 8 f) i 0 < 2 ^ 16
        at (yes l) = rw (get_or_tab 8 f i l) (h i)
        at (no n) = rw (get_or_tab_out 8 f i (omega arith)) (pow_pos 16)
