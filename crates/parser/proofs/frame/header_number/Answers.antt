-- Four bytes, or the first two of them.
use mathlib.Core.Path.{◌≡◌, sym, ap, ◌∙◌}
use native.Mathlib.Omega.{arith}
use lib.ListN.{take, drop}
use Rattle.bits.specs.Bytes.{number_of}
use Rattle.fields.proofs.Pair.{pair_at, four_at}
use Rattle.kinds.specs.Kind.{kind_of}
use Rattle.kinds.proofs.Formed.{two_or_four}
use Rattle.parser.specs.Frame.{frame_number}
use Rattle.parser.proofs.frame.header_number.Goals as goal

pub returns-then-number_bytes-eq4 : goal.returns-then-number_bytes-eq4
unfolding frame_number
returns-then-number_bytes-eq4 c =
    let a = c.args in
    let wide : (kind_of a.kind).number_bytes ≡ 4 = sym c.number_bytes.ensures.is ∙ c.if-number_bytes-eq4.true in
    c.four-four.ensures ∙ four_at a.s.now 3 (omega arith) ∙ ap (λ w. number_of (take w (drop 3 a.s.now))) (sym wide)

pub returns-else-number_bytes-eq4 : goal.returns-else-number_bytes-eq4
unfolding frame_number
returns-else-number_bytes-eq4 c =
    let a = c.args in
    let narrow : (kind_of a.kind).number_bytes ≡ 2 = two_or_four a.kind (λ q. c.if-number_bytes-eq4.false (c.number_bytes.ensures.is ∙ q)) in
    c.pair-two.ensures ∙ pair_at a.s.now 3 (omega arith) ∙ ap (λ w. number_of (take w (drop 3 a.s.now))) (sym narrow)
