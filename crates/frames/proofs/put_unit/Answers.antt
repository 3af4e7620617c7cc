-- The header, and the text behind it, sealed.
use mathlib.Core.Path.{◌≡◌, refl, ap, ◌∙◌}
use mathlib.Core.List.{◌++◌}
use Prim.Native.Nat.{ℕ, ◌+◌}
use native.Mathlib.Omega.{arith}
use lib.ListN.{length}
use Rattle.fields.specs.Kind.{Kind}
use Rattle.fields.specs.Unit.{BookUnit, unit_of, unit_text, details_of}
use Rattle.kinds.specs.Kind.{kind_of}
use Rattle.kinds.specs.Lengths.{unit_length}
use Rattle.format.specs.Layout.{sealed_fields, unit_bytes}
use Rattle.format.specs.Sealings.{unit_header, unit_sealing}
use Rattle.frames.proofs.Sealed.{framed}
use Rattle.frames.proofs.put_unit.Goals as goal

pub returns : goal.returns
unfolding unit_bytes unit_sealing details_of
returns c =
    let a = c.args in
    let w = a.w in
    let out = a.out.now in
    let r = c.as_slice-header.result.now in
    let along = c.unit_along-along.ensures in
    let kind : Kind = kind_of a.kind in
    let n = c.header_len-h.result in
    let u : BookUnit = unit_of a.from a.to a.source.now a.target.now in
    let m : ℕ = length a.source.now + length a.target.now in
    let long : length r ≡ 16 + n = omega (arith, along.long, ap length c.as_slice-header.ensures, c.header_len-h.ensures.is) in
    framed w.suite w.number n (unit_header kind w.count (a.from ++ a.to)) r (c.as_slice-header.ensures ∙ along.is) long w.key
    (unit_sealing kind w.suite w.number w.count u) refl c.nonce-nonce.ensures
    out c.copy.new.d c.copy.ensures (sealed_fields (length (unit_text a.source.now a.target.now))) (24 + m)
    (unit_length kind (length a.source.now) (length a.target.now)) (omega (arith, c.header_len-h.ensures.is))
    c.put_sealed.ensures
