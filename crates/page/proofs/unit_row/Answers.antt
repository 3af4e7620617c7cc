-- The unit's source, its score, and the row of the two.
use mathlib.Core.Path.{◌≡◌, ap, ◌∙◌}
use mathlib.Core.List.{List}
use Prim.Native.Nat.{ℕ, ◌+◌, ◌-◌}
use native.Mathlib.Omega.{arith}
use lib.ListN.{length, take, drop}
use Rattle.fields.specs.Unit.{source_of}
use Rattle.kinds.specs.Kind.{kind_of}
use Rattle.kinds.specs.Lengths.{frame_length}
use Rattle.parser.proofs.Frames.{UnitTold}
use Rattle.seals.specs.Seal.{unit_opened}
use Rattle.score.specs.Score.{score}
use Rattle.rows.specs.Row.{row_of}
use Rattle.page.specs.Page.{ciphertext_length, source_at, row}
use Rattle.page.proofs.Pages.{told_there}
use Rattle.page.proofs.unit_row.Goals as goal

pub ciphertext_len-m-requires : goal.ciphertext_len-m-requires
ciphertext_len-m-requires c =
    let a = c.args in
    let r = a.r.now in
    let told : UnitTold (kind_of r.kind) a.n (ciphertext_length (kind_of r.kind) a.s.now) a.s.now =
    told_there (kind_of r.kind) r.key.now r.front.now a.n a.s.now c.requires.0 in
    omega arith

pub unit_len-requires : goal.unit_len-requires
unit_len-requires c =
    let a = c.args in
    let r = a.r.now in
    let told : UnitTold (kind_of r.kind) a.n (ciphertext_length (kind_of r.kind) a.s.now) a.s.now =
    told_there (kind_of r.kind) r.key.now r.front.now a.n a.s.now c.requires.0 in
    omega (arith, c.ciphertext_len-m.ensures)

pub returns : goal.returns
unfolding row source_at
returns c =
    let a = c.args in
    let r = a.r.now in
    let opened : ℕ → List ℕ = λ m. source_of (unit_opened (kind_of r.kind) r.key.now r.front.now a.n m a.s.now) in
    let source = source_at (kind_of r.kind) r.key.now r.front.now a.n a.s.now in
    let len = c.source-len.result in
    let left = c.source-len.new.work in
    let length_is : len ≡ length source = c.source-len.ensures.length_is ∙ ap (λ m. length (opened m)) c.ciphertext_len-m.ensures in
    -- as the code cuts it out
    let long : 2 + len - 2 ≡ len = omega arith in
    let part-is : take (2 + len - 2) (drop 2 left) ≡ source =
    ap (λ k. take k (drop 2 left)) long ∙ c.source-len.ensures.source ∙ ap opened c.ciphertext_len-m.ensures in
    record {
      prepared = c.score-score.ensures.stays;
      room = c.source-len.ensures.long;
      put = c.put.ensures ∙ (λ i. row_of (length_is i) ((c.score-score.ensures.is ∙ ap (λ l. score l a.prepared.now.typed.now) part-is) i));
      step = c.unit_len.ensures.is ∙ ap (frame_length (kind_of r.kind)) c.ciphertext_len-m.ensures;
    }
