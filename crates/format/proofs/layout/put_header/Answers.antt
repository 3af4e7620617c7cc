-- Tag and length, and the value behind them.
use mathlib.Core.Path.{◌≡◌, refl, sym, ap, ◌∙◌}
use mathlib.Core.List.{List, ◌++◌}
use Prim.Native.Nat.{ℕ, ◌+◌}
use lib.ListN.{length, drop, length-append}
use Rattle.bits.specs.Bytes.{big_endian}
use Rattle.bits.proofs.BigEndian.{length_big_endian}
use Rattle.fields.specs.Field.{field_head, field}
use Rattle.fields.proofs.Fields.{length_field_head}
use Rattle.format.proofs.Behind.{copied, behind}
use Rattle.format.proofs.layout.put_header.Goals as goal

pub returns : goal.returns
unfolding field
returns c =
    let v = c in
    let k = v in
    let h = k in
    let a = h.args in
    let more = a.more.now in
    let out = a.out.now in
    let m : ℕ = a.w + length more in
    let value : List ℕ = big_endian a.w a.n ++ more in
    let long : length value ≡ m = length-append (big_endian a.w a.n) more ∙ ap (λ (w : ℕ). w + length more) (length_big_endian a.w a.n) in
    let three : length (field_head a.tag m) ≡ 3 = length_field_head a.tag m in
    behind 3 (field_head a.tag m) out k.copy.new.d three
    (copied 3 (field_head a.tag m) h.head-head.result out k.copy.new.d three h.head-head.ensures k.copy.ensures)
    m (3 + m) refl (λ p. value) v.number_then.new.out v.number_then.ensures
    ∙ ap (λ (n : ℕ). (field_head a.tag n ++ value) ++ drop (3 + m) out) (sym long)
