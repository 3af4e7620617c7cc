-- The bytes are copied over zeros, and the byte after them is stored.
use mathlib.Core.Path.{◌≡◌, sym, ap, ◌∙◌}
use mathlib.Core.List.{◌++◌, append-nil}
use native.Mathlib.Omega.{arith}
use lib.ListN.{length, set, drop, replicate}
use Rattle.sums.proofs.Sums.{filled_whole, filled_short}
use Rattle.sums.proofs.fill.Goals as goal

pub returns-then-n-lt16 : goal.returns-then-n-lt16
returns-then-n-lt16 c =
    let a = c.args in
    ap (λ l. set l (length a.s.now) a.pad) c.copy.ensures ∙ filled_short a.pad a.s.now (omega arith)

pub returns-else-n-lt16 : goal.returns-else-n-lt16
returns-else-n-lt16 c =
    let a = c.args in
    let l : length a.s.now ≡ 16 = omega arith in
    c.copy.ensures
    ∙ ap (λ n. a.s.now ++ drop n (replicate 16 0)) l
    ∙ append-nil a.s.now
    ∙ sym (filled_whole a.pad a.s.now l)
