-- What stands at the start so far, and then what this read gave, are the reader's next bytes.
use Rattle.std.proofs.Common.{◌≡◌, ℕ, ◌+◌, ◌-◌, ◌≤◌, List, ◌++◌, rules, length, take, sym, ap, ◌∙◌, subst, le_refl, drop_at, length-take-le}
use Rattle.std.proofs.lemmas.Slice.{take-put_mid_below}
use Rattle.std.proofs.KnownBytes.{Consumes-trans}
use Rattle.std.specs.Io.KnownBytes.{Consumes}
use borrow.Rule.Slice.PartMut.{put_mid, post_of}
use lib.Seq.{take-add, take-append-le}
use Rattle.input.proofs.read_full.Goals as goal

-- n bytes of ys, put behind the first a of xs, stand behind them
behind_first : (a k n : ℕ) (xs ys : List ℕ) → a ≤ length xs → n ≤ length ys → take a xs ++ take n ys ≡ take (a + n) (put_mid a k xs ys)
behind_first a k n xs ys within fits =
    let rest = post_of a k xs in
    let front = take-put_mid_below a k xs ys a (le_refl _) within in
    let back = ap (take n) (drop_at (take a xs) (ys ++ rest) a (length-take-le a xs within)) ∙ take-append-le n ys rest fits in
    (λ i. sym front i ++ sym back i) ∙ sym (take-add a n (put_mid a k xs ys))

pub loop-done-preserved : goal.loop-done-preserved
loop-done-preserved g c =
    let done = c.loop-done.done in
    let joined = behind_first done (length c.loop-done.buf - done) c.in-Ok.n c.loop-done.buf c.read.new.buf c.loop-done.invariant.1 c.in-Ok.ensures.bound.0 in (
      search rules,
      search rules,
      search rules,
      subst (Consumes _ _) joined (Consumes-trans _ _ _ _ _ c.loop-done.invariant.3 c.in-Ok.ensures.bytes.0),
    )
