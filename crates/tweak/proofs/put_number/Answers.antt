-- The loop writes the number from its lowest byte on.
use mathlib.Core.Path.{◌≡◌, sym, ap, ◌∙◌}
use mathlib.Core.List.{◌++◌}
use Prim.Native.Nat.{suc, ◌+◌, ◌-◌, ◌/◌, ◌%◌, ◌^◌}
use native.Mathlib.Omega.{arith}
use lib.ListN.{set, take, drop, take-append-drop}
use Rattle.bits.specs.Bytes.{big_endian}
use Rattle.bits.proofs.BigEndian.{number_more, number_rest}
use Rattle.tweak.proofs.put_number.Goals as goal

pub loop-i-init : goal.loop-i-init
unfolding big_endian
loop-i-init c =
    (omega arith, omega arith, omega arith, sym (take-append-drop (c.args.at + 16) c.args.d.now))

pub loop-i-preserved : goal.loop-i-preserved
loop-i-preserved c =
    let h = c in
    let a = h.args in
    let i = h.loop-i.i in
    let d = a.d.now in
    let v = a.number in
    let next : 16 - (i - 1) ≡ suc (16 - i) = omega arith in
    let here : suc (a.at + (i - 1)) ≡ a.at + i = omega arith in (
      omega arith,
      omega arith,
      ap (λ x. x / 256) h.loop-i.invariant.2 ∙ number_rest (16 - i) v ∙ ap (λ k. v / 256 ^ k) (sym next),
      (λ j. set
          ((h.loop-i.invariant.3 ∙ ap (λ k. take k d ++ (big_endian (16 - i) v ++ drop (a.at + 16) d)) (sym here)) j)
          (a.at + (i - 1)) (h.loop-i.invariant.2 j % 256))
          ∙ number_more d (drop (a.at + 16) d) (a.at + (i - 1)) (16 - i) v (omega arith)
          ∙ ap (λ k. take (a.at + (i - 1)) d ++ (big_endian k v ++ drop (a.at + 16) d)) (sym next),
    )
