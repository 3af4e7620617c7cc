-- The rows are the digits of the words.
use borrow.Author.Rules.{rules}
use mathlib.Core.Path.{◌∙◌}
use Prim.Native.Nat.{ℕ, ◌<◌}
use lib.ListN.{get_or}
use mir.Syntax.{w16}
use mir.Val.{Fits}
use Rattle.bits.proofs.Lists.{tab_get_or}
use Rattle.state.proofs.Words.{digits, rows_are}
use Rattle.state.proofs.state_of.Goals as goal

pub returns : goal.returns
returns c =
    let h = c in
    let w = h.args.w in
    let fits : (i : ℕ) → get_or w i 0 < 65536 = λ i. let f : Fits w16 (get_or w i 0) = search rules in f.fits in
    rows_are (record { low = c.four.result; high = c.four-2.result })
    (digits (get_or w 0 0) (get_or w 1 0) (get_or w 2 0) (get_or w 3 0) (fits 0) (fits 1) (fits 2) (fits 3) c.four.ensures)
    (digits (get_or w 4 0) (get_or w 5 0) (get_or w 6 0) (get_or w 7 0) (fits 4) (fits 5) (fits 6) (fits 7) c.four-2.ensures)
    ∙ tab_get_or 8 w h.well_formed.0.1.0.1
