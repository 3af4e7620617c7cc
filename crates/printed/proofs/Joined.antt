-- Two printed tables joined: the whole product of the matrix and a byte in its half of the word.
use mathlib.Core.Path.{◌≡◌, sym, ap, ◌∙◌}
use mathlib.Core.List.{List}
use Prim.Native.Nat.{ℕ, ◌+◌, ◌*◌, ◌/◌, ◌%◌, ◌^◌, ◌<◌}
use native.Mathlib.Omega.{arith}
use lib.ListN.{length}
use Rattle.bits.specs.Table.{tab}
use Rattle.bits.proofs.Lists.{tab_ext}
use Rattle.lbox.specs.Lbox
use Rattle.lbox.specs.Tables.{joined}
use Rattle.lbox.proofs.Matrix.{times_lt}
use Rattle.printed.specs.declared.Half.{Half}
use Rattle.printed.specs.declared.Half.TheVariants.{Low, High}
use Rattle.printed.specs.Printed.{table, entry}
use Rattle.printed.specs.Rule.{Rule, in_half, product, made, rule}
use Rattle.printed.proofs.Right.{made_is}

-- The tables at the places p and q give the high and the low half of the product.
module _ (m : List (List ℕ)) (h : Half) (p q : ℕ) (long : length m ≡ 16) (hp : p < 15) (hq : q < 15) where
  module _ (ep : rule p ≡ product m h High) (eq : rule q ≡ product m h Low) where
    pub product_whole : (b : ℕ) → b < 256 → entry p b * 256 + entry q b ≡ Lbox.times m (in_half h b)
    product_whole b hb =
        let x : ℕ = Lbox.times m (in_half h b) in
        let high : x / 256 % 256 ≡ entry p b = sym (ap (λ (r : Rule). made r b) ep) ∙ made_is p hp b hb in
        let low : x % 256 ≡ entry q b = sym (ap (λ (r : Rule). made r b) eq) ∙ made_is q hq b hb in
        let room : x < 2 ^ 16 = rw long at (times_lt m (in_half h b)) in
        omega (arith, high, low, room)

    pub halves_joined : joined (table p) (table q) ≡ tab 256 (λ b. Lbox.times m (in_half h b))
    unfolding joined
    halves_joined = tab_ext 256 (λ b. entry p b * 256 + entry q b) (λ b. Lbox.times m (in_half h b)) product_whole
