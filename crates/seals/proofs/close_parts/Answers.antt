-- The places of a close's fields.
use mathlib.Core.Path.{ap}
use mathlib.Core.List.{◌++◌}
use native.Mathlib.Omega.{arith}
use lib.ListN.{take}
use Rattle.kinds.specs.Kind.{kind_of}
use Rattle.parser.proofs.Frames.{close_told}
use Rattle.seals.specs.Seal.{close_along}
use Rattle.seals.proofs.Verified.{parts_same, close_sealed_is}
use Rattle.seals.proofs.close_parts.Goals as goal

pub parts_at-requires : goal.parts_at-requires
parts_at-requires c =
    let t = close_told (kind_of c.args.r.now.kind) c.args.n c.args.s.now c.requires in
    let h = c.close_header_len-h.ensures in (
      c.args.r.now.under.opening_long,
      record {
        short = omega arith;
        within = omega (arith, t.length_is);
        starts = omega arith;
        ends = omega (arith, t.length_is);
        tagged = omega (arith, t.length_is);
      },
    )

pub returns : goal.returns
unfolding close_along
returns c =
    let a = c.args in
    let r = a.r.now in
    parts_same
    (ap (λ n. r.front.now ++ take n a.s.now) c.close_header_len-h.ensures.is)
    (close_sealed_is (kind_of r.kind) a.s.now c.close_header_len-h.result c.close_header_len-h.ensures.is)
    c.parts_at.ensures
