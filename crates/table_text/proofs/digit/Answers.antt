-- At each of the sixteen digits the sum is the letter's code.
use mathlib.Core.Path.{◌≡◌}
use mathlib.Core.Bool.{cond}
use Prim.Native.Nat.{ℕ, ◌+◌, ◌-◌, ◌<◌, ◌%◌}
use native.Mathlib.Omega.{arith}
use borrow.Author.Rules.{rules}
use borrow.Author.Tests.{lt-ltb, le-ltb}
use lib.Dec.{ltb, eqb, eqb→eq}
use Rattle.bits.proofs.Tests.{all_at}
use Rattle.table_text.specs.Text.{hex_digit}
use Rattle.table_text.proofs.digit.Goals as goal

code : (n : ℕ) → n < 16 → cond (ltb n 10) (48 + n) (65 + (n - 10)) ≡ hex_digit n
unfolding hex_digit
code n h = eqb→eq _ _ (all_at 16 (λ n. eqb (cond (ltb n 10) (48 + n) (65 + (n - 10))) (hex_digit n)) tt n h)

pub returns-then-n-lt10 : goal.returns-then-n-lt10
returns-then-n-lt10 c =
    let n = c.args.d % 16 in rw (lt-ltb n 10 (search rules)) at (code n (omega arith))

pub returns-else-n-lt10 : goal.returns-else-n-lt10
returns-else-n-lt10 c =
    let n = c.args.d % 16 in rw (le-ltb n 10 (search rules)) at (code n (omega arith))
