-- The two bytes behind the tag of field 11.
use mathlib.Core.Path.{◌≡◌, sym, ap, ◌∙◌}
use mathlib.Core.List.{List}
use Prim.Native.Nat.{ℕ, ◌+◌, ◌*◌, ◌≤◌}
use native.Mathlib.Omega.{arith}
use lib.ListN.{length, get_or, take, drop, length-drop}
use lib.Seq.{get_or-drop}
use Rattle.bits.specs.Bytes.{number_of}
use Rattle.fields.specs.Field.{field_length, after_field}
use Rattle.fields.specs.Kind.{Kind}
use Rattle.fields.proofs.Pair.{pair_at}
use Rattle.kinds.specs.Kind.{kind_of}
use Rattle.kinds.specs.Lengths.{header_length}
use Rattle.parser.specs.Frame.{after_header}
use Rattle.page.specs.Page.{ciphertext_length}
use Rattle.page.proofs.ciphertext_len.Goals as goal

stated : (kind : Kind) (s : List ℕ) (at : ℕ) → at ≡ header_length kind → at + 3 ≤ length s
    → get_or s (at + 1) 0 * 256 + get_or s (at + 2) 0 ≡ ciphertext_length kind s
unfolding field_length after_header after_field
stated kind s at e room =
    let r = drop at s in
    let next : (i : ℕ) → get_or r i 0 ≡ get_or s (at + i) 0 = λ i. get_or-drop at s i 0 in
    (λ i. sym (next 1) i * 256 + sym (next 2) i)
    ∙ pair_at r 1 (rw length-drop (omega arith))
    ∙ ap (λ (k : ℕ). number_of (take 2 (drop 1 (drop k s)))) e

pub returns : goal.returns
returns c =
    c.pair.ensures
    ∙ stated (kind_of c.args.kind) c.args.s.now c.header_len-at.result c.header_len-at.ensures.is (omega (arith, c.header_len-at.ensures.is, c.requires))
