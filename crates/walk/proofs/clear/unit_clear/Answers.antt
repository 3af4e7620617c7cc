-- The fields of a unit that was read.
use Prim.Native.Nat.{◌+◌, ◌^◌, ◌≤◌, ◌<◌}
use native.Mathlib.Omega.{arith}
use borrow.Author.Rules.{rules}
use Rattle.kinds.specs.Kind.{kind_of}
use Rattle.kinds.specs.Lengths.{header_length}
use Rattle.parser.proofs.Frames.{unit_told}
use Rattle.walk.proofs.clear.unit_clear.Goals as goal

pub codes-pair-requires : goal.codes-pair-requires
codes-pair-requires c = let t = unit_told (kind_of c.args.kind) c.args.n c.args.m c.args.s.now c.requires.0 in omega (arith, t.length_is)

pub overflow_add-result : goal.overflow_add-result
overflow_add-result c =
    let t = unit_told (kind_of c.args.kind) c.args.n c.args.m c.args.s.now c.requires.0 in
    let h : c.args.at + header_length (kind_of c.args.kind) + 22 + c.args.m < 2 ^ 64 = omega (arith, t.length_is, c.requires.1) in
    let most : c.args.m ≤ 8194 = t.most in
    search rules

pub unit_len-requires : goal.unit_len-requires
unit_len-requires c =
    let t = unit_told (kind_of c.args.kind) c.args.n c.args.m c.args.s.now c.requires.0 in
    let h : c.args.at + header_length (kind_of c.args.kind) + 22 + c.args.m < 2 ^ 64 = omega (arith, t.length_is, c.requires.1) in
    let most : c.args.m ≤ 8194 = t.most in
    search rules

pub overflow_add-result-2 : goal.overflow_add-result-2
overflow_add-result-2 c =
    let t = unit_told (kind_of c.args.kind) c.args.n c.args.m c.args.s.now c.requires.0 in
    let h : c.args.at + header_length (kind_of c.args.kind) + 22 + c.args.m < 2 ^ 64 = omega (arith, t.length_is, c.requires.1) in
    let most : c.args.m ≤ 8194 = t.most in
    search rules
