-- The header, and the tag of an empty text behind it.
use mathlib.Core.Path.{◌≡◌, refl, ap, ◌∙◌}
use Prim.Native.Nat.{◌+◌}
use native.Mathlib.Omega.{arith}
use lib.ListN.{length}
use Rattle.fields.specs.Kind.{Kind}
use Rattle.kinds.specs.Kind.{kind_of}
use Rattle.kinds.specs.Lengths.{close_length}
use Rattle.format.specs.Layout.{close_bytes}
use Rattle.format.specs.Sealings.{close_header, close_sealing}
use Rattle.frames.specs.Parts.{tag_apart}
use Rattle.frames.proofs.Sealed.{framed}
use Rattle.frames.proofs.put_close.Goals as goal

pub returns : goal.returns
unfolding close_bytes close_sealing tag_apart
returns c =
    let a = c.args in
    let w = a.w in
    let out = a.out.now in
    let r = c.as_slice-header.result.now in
    let along = c.close_along-along.ensures in
    let kind : Kind = kind_of a.kind in
    let n = c.close_header_len-h.result in
    let long : length r ≡ 16 + n = omega (arith, along.long, ap length c.as_slice-header.ensures, c.close_header_len-h.ensures.is) in
    framed w.suite w.number n (close_header kind w.count) r (c.as_slice-header.ensures ∙ along.is) long w.key
    (close_sealing kind w.suite w.number w.count) refl c.nonce-last.ensures
    out c.copy.new.d c.copy.ensures (tag_apart 0) 19 (close_length kind) (omega (arith, c.close_header_len-h.ensures.is))
    c.seal_here.ensures
