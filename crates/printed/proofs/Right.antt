-- What the rules make is what the paper prints: one computed test over the fifteen tables, and the law that turns it into the rule of
-- each entry.
use mathlib.Core.Path.{◌≡◌, ◌∙◌}
use mathlib.Core.Bool.{Bool, ◌&&◌}
use Prim.Native.Nat.{ℕ, ◌<◌}
use lib.Dec.{T, eqb, eqb→eq, ltb, ltb→lt}
use lib.ListN.{length}
use Rattle.bits.specs.Bit.{bit, gather}
use Rattle.bits.specs.Table.{tab}
use Rattle.bits.proofs.Lists.{tab_ext, tab_get_or}
use Rattle.bits.proofs.Tests.{all, all_at, and_left, and_right}
use Rattle.sbox.specs.Sbox
use Rattle.lbox.specs.Lbox
use Rattle.printed.specs.Lboxes
use Rattle.printed.specs.Printed.{tables, table, entry}
use Rattle.printed.specs.Rule.{made, rules, rule}

-- at the place p: 256 entries, each a byte, and what the rule makes
abbrev at : ℕ → ℕ → Bool
at p b = ltb (entry p b) 256 && eqb (made (rule p) b) (entry p b)

abbrev right : ℕ → Bool
right p = eqb (length (table p)) 256 && all 256 (at p)

-- the test over the fifteen
all_right : T (all 15 right)
unfolding tables table rules rule
    Lboxes.table8 Lboxes.table9 Lboxes.table10 Lboxes.table11
    Lboxes.table12 Lboxes.table13 Lboxes.table14 Lboxes.table15
    Lboxes.table17 Lboxes.table18 Lboxes.table19 Lboxes.table20
    Sbox.scream Sbox.scream_inverse Sbox.iscream
    Lbox.scream Lbox.scream_inverse Lbox.iscream
    Lbox.times Lbox.dot bit gather
all_right = tt

module _ (p : ℕ) (h : p < 15) where
  test : T (right p)
  test = all_at 15 right all_right p h

  -- each table has 256 entries
  pub table_long : length (table p) ≡ 256
  table_long = eqb→eq (length (table p)) 256 (and_left (eqb (length (table p)) 256) (all 256 (at p)) test)

  module _ (b : ℕ) (hb : b < 256) where
    test_at : T (at p b)
    test_at = all_at 256 (at p) (and_right (eqb (length (table p)) 256) (all 256 (at p)) test) b hb

    pub entry_byte : entry p b < 256
    entry_byte = ltb→lt (entry p b) 256 (and_left (ltb (entry p b) 256) (eqb (made (rule p) b) (entry p b)) test_at)

    -- what is made is the paper's entry
    pub made_is : made (rule p) b ≡ entry p b
    made_is = eqb→eq (made (rule p) b) (entry p b) (and_right (ltb (entry p b) 256) (eqb (made (rule p) b) (entry p b)) test_at)

  -- and so of the whole table
  pub made_table : tab 256 (made (rule p)) ≡ table p
  made_table = tab_ext 256 (made (rule p)) (entry p) made_is ∙ tab_get_or 256 (table p) table_long
