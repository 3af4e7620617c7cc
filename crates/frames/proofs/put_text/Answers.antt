-- The source's length, the source and the target, one behind the other.
use mathlib.Core.Path.{◌≡◌, ap, ◌∙◌}
use mathlib.Core.List.{List, ◌++◌, append_assoc}
use Prim.Native.Nat.{ℕ, ◌+◌}
use native.Mathlib.Omega.{arith}
use lib.ListN.{length, drop, length-append}
use Rattle.bits.specs.Bytes.{big_endian}
use Rattle.bits.proofs.BigEndian.{length_big_endian}
use Rattle.fields.specs.Unit.{unit_text}
use Rattle.format.proofs.Behind.{behind}
use Rattle.frames.proofs.put_text.Goals as goal

pub returns : goal.returns
unfolding unit_text
returns c =
    let a = c.args in
    let s = a.source.now in
    let t = a.target.now in
    let out = a.out.now in
    let n : List ℕ = big_endian 2 (length s) in
    let end : ℕ = 2 + (length s + length t) in
    let long : length (n ++ s) ≡ 2 + length s = length-append n s ∙ ap (λ (w : ℕ). w + length s) (length_big_endian 2 (length s)) in
    behind (2 + length s) (n ++ s) out c.number_then.new.out long c.number_then.ensures (length t) end (omega arith) (λ p. t)
    c.copy.new.d c.copy.ensures
    ∙ ap (λ (z : List ℕ). z ++ drop end out) (append_assoc n s t)
