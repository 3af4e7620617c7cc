-- Each half is a word, whose digits are pairs of its bytes.
use Rattle.std.proofs.Common.{rules, ◌≡◌, ℕ, ◌<◌, Fits, w8, length}
use lib.ListN.{get_or}
use Rattle.state.proofs.Words.{rows_of_block}
use Rattle.state.proofs.load.Goals as goal

pub returns : goal.returns
returns c =
    let b = c.args.b in
    let fits : (i : ℕ) → get_or b i 0 < 256 = λ i. let f : Fits w8 (get_or b i 0) = search rules in f.fits in
    let long : length b ≡ 16 = c.well_formed.0.1.0.1 in
    rows_of_block (record { low = c.from_le_bytes.result; high = c.from_le_bytes-2.result }) b long fits
    (rw (c.as_chunks.ensures.front, long) at c.from_le_bytes.ensures)
    (rw (c.as_chunks.ensures.front, long) at c.from_le_bytes-2.ensures)
