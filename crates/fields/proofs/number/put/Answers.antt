-- The loop writes the number from its lowest byte on.
use mathlib.Core.Path.{◌≡◌, sym, ap, ◌∙◌}
use mathlib.Core.List.{[], ◌++◌, append-nil}
use Prim.Native.Nat.{suc, ◌-◌, ◌/◌, ◌%◌, ◌^◌}
use native.Mathlib.Omega.{arith}
use lib.ListN.{length, set, take}
use lib.Seq.{take-length}
use Rattle.bits.specs.Bytes.{big_endian}
use Rattle.bits.proofs.BigEndian.{number_more, number_rest}
use Rattle.fields.proofs.number.put.Goals as goal

pub loop-i-init : goal.loop-i-init
unfolding big_endian
loop-i-init c =
    let b = c.args.out.now in
    let v = c.args.v in
    let none : 0 ≡ length b - length b = omega arith in
    let all : v ≡ v / 256 ^ 0 = omega arith in (
      omega arith,
      all ∙ ap (λ k. v / 256 ^ k) none,
      sym (append-nil (take (length b) b) ∙ take-length b) ∙ ap (λ k. take (length b) b ++ big_endian k v) none,
    )

pub loop-i-preserved : goal.loop-i-preserved
loop-i-preserved c =
    let h = c in
    let i = h.loop-i.i in
    let b = h.args.out.now in
    let n = length b in
    let v = h.args.v in
    let next : n - (i - 1) ≡ suc (n - i) = omega arith in
    let here : suc (i - 1) ≡ i = omega arith in (
      omega arith,
      ap (λ x. x / 256) h.loop-i.invariant.1 ∙ number_rest (n - i) v ∙ ap (λ k. v / 256 ^ k) (sym next),
      (λ j. set ((h.loop-i.invariant.2 ∙ ap (λ k. take k b ++ big_endian (n - i) v) (sym here)) j) (i - 1) (h.loop-i.invariant.1 j % 256))
          ∙ ap (λ r. set (take (suc (i - 1)) b ++ r) (i - 1) (v / 256 ^ (n - i) % 256)) (sym (append-nil (big_endian (n - i) v)))
          ∙ number_more b [] (i - 1) (n - i) v (omega arith)
          ∙ ap (λ r. take (i - 1) b ++ r) (append-nil (big_endian (suc (n - i)) v))
          ∙ ap (λ k. take (i - 1) b ++ big_endian k v) (sym next),
    )
