-- The places of a unit's fields.
use mathlib.Core.Path.{refl, ap}
use mathlib.Core.List.{◌++◌}
use Prim.Native.Nat.{◌+◌}
use native.Mathlib.Omega.{arith}
use borrow.Author.Rules.{rules}
use lib.ListN.{take}
use Rattle.kinds.specs.Kind.{kind_of}
use Rattle.parser.proofs.Frames.{unit_told}
use Rattle.seals.specs.Seal.{unit_along}
use Rattle.seals.proofs.Verified.{parts_same, unit_sealed_is}
use Rattle.seals.proofs.unit_parts.Goals as goal

pub overflow_add-end : goal.overflow_add-end
overflow_add-end c =
    let t = unit_told (kind_of c.args.kind) c.args.n c.args.m c.args.s.now c.requires.1 in search rules

pub overflow_add-end-2 : goal.overflow_add-end-2
overflow_add-end-2 c =
    let t = unit_told (kind_of c.args.kind) c.args.n c.args.m c.args.s.now c.requires.1 in search rules

pub parts_at-requires : goal.parts_at-requires
parts_at-requires c =
    let t = unit_told (kind_of c.args.kind) c.args.n c.args.m c.args.s.now c.requires.1 in
    let h = c.header_len.ensures in
    let a = c.ciphertext_at-start.ensures in (
      c.requires.0,
      record {
        short = omega arith;
        within = omega (arith, t.length_is);
        starts = omega arith;
        ends = omega (arith, t.length_is);
        tagged = omega (arith, t.length_is);
      },
    )

pub returns : goal.returns
unfolding unit_along
returns c =
    let a = c.args in
    parts_same
    (ap (λ n. a.front.now ++ take n a.s.now) c.header_len.ensures.is)
    (unit_sealed_is (kind_of a.kind) a.s.now a.m c.ciphertext_at-start.result (c.ciphertext_at-start.result + a.m) c.ciphertext_at-start.ensures.is refl)
    c.parts_at.ensures
