-- Two letters of each code.
use Prim.Native.Nat.{◌+◌}
use Rattle.kinds.proofs.Formed.{two_letters}
use Rattle.parser.proofs.Read.{from_letters, to_letters}
use Rattle.parser.proofs.frame.codes.Goals as goal

pub returns : goal.returns
returns c =
    let a = c.args in
    let at = c.codes_at-a.ensures.is in
    let bytes = c.code_bytes.ensures.is in
    let two = two_letters a.kind in (
      from_letters a.kind a.s.now c.requires c.codes_at-a.result at,
      to_letters a.kind a.s.now c.requires (c.codes_at-a.result + c.code_bytes.result) (λ i. at i + bytes i),
    )
