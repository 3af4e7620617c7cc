-- The opening fields, and the field behind them.
use mathlib.Core.Path.{◌≡◌, ap, ◌∙◌}
use mathlib.Core.List.{List, ◌++◌}
use Prim.Native.Nat.{ℕ, ◌+◌}
use native.Mathlib.Omega.{arith}
use lib.ListN.{length, take, drop, replicate, length-append}
use lib.Seq.{take_at}
use Rattle.bits.specs.Bytes.{big_endian}
use Rattle.bits.proofs.BigEndian.{length_big_endian}
use Rattle.fields.specs.Field.{field}
use Rattle.fields.proofs.Fields.{length_field}
use Rattle.format.specs.Sealings.{opening_fields}
use Rattle.format.proofs.Lengths.{length_opening_fields}
use Rattle.format.proofs.layout.along_of.Goals as goal

pub returns : goal.returns
returns c =
    let a = c.args in
    let more = a.more.now in
    let m : ℕ = a.w + length more in
    let front : List ℕ = opening_fields a.suite a.number in
    let value : List ℕ = big_endian a.w a.n ++ more in
    let long : length (field a.tag value) ≡ 3 + m = simp (length_field, length-append, length_big_endian) in
    let header : take (3 + m) c.put_header.new.out ≡ field a.tag value =
    ap (take (3 + m)) c.put_header.ensures ∙ take_at (field a.tag value) (drop (3 + m) (replicate 32 0)) (3 + m) long in
    let all : c.of.result ≡ front ++ field a.tag value = c.of.ensures ∙ (λ i. c.opening.ensures i ++ header i) in
    record { is = all; long = ap length all ∙ simp (length-append, long, length_opening_fields) (omega arith) }
