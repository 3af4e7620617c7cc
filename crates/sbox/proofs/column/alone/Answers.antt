-- Row i is bit i of the byte.
use mathlib.Core.List.{◌∷◌}
use mathlib.Core.Path.{sym, ap, ◌∙◌}
use Prim.Native.Nat.{ℕ, suc}
use Rattle.bits.specs.Bit.{bit}
use Rattle.bits.specs.Table.{tab}
use Rattle.bits.proofs.Bits.{bit_zero}
use Rattle.sbox.specs.Sbox
use Rattle.sbox.proofs.column.alone.Goals as goal

pub returns : goal.returns
unfolding Sbox.alone bit
returns c =
    let x = c.from-x.result in
    ap (λ (n : ℕ). n ∷ tab 7 (λ i. bit x (suc i))) (sym (bit_zero x)) ∙ ap Sbox.alone c.from-x.ensures
