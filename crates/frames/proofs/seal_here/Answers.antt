-- Nothing is refused; the tag stands behind the ciphertext and becomes field 12.
use mathlib.Core.Path.{◌≡◌, ap, ◌∙◌}
use Prim.Native.Nat.{◌+◌}
use borrow.Author.Rules.{rules}
use native.Mathlib.Omega.{arith}
use lib.ListN.{length, take}
use Rattle.calls.specs.Calls.{calls}
use Rattle.sealing.specs.declared.seal.Sealed.{Sealed}
use Rattle.sealing.specs.Seal.{sealed}
use Rattle.format.specs.Sealings.{sealed_bytes, sealing_calls}
use Rattle.frames.proofs.Sealed.{length_all, answered, sealed_there, tag_put}
use Rattle.frames.proofs.seal_here.Goals as goal

pub unwrap-requires : goal.unwrap-requires
unwrap-requires c =
    let a = c.args in
    let key : length a.key ≡ 16 = omega arith in
    let e = answered a.suite a.key a.nonce.now a.header.now a.m a.out.now c.requires.0 key (omega arith) in
    rw (c.seal_in_place-answer.ensures.0 ∙ e) (search rules)

pub returns : goal.returns
unfolding sealed_bytes sealing_calls
returns c =
    let a = c.args in
    let out = a.out.now in
    let key : length a.key ≡ 16 = omega arith in
    let x = c.seal_in_place-answer.new.out in
    let all = sealed a.suite.cipher a.suite.steps a.key a.nonce.now a.header.now (take a.m out) in
    let e = c.seal_in_place-answer.ensures.0 ∙ answered a.suite a.key a.nonce.now a.header.now a.m out c.requires.0 key (omega arith) in
    let s : c.unwrap.result ≡ record { len = a.m + 16; calls = length (calls a.nonce.now a.header.now (take a.m out)) } = cc in
    record {
      calls = ap (λ (s : Sealed). s.calls) s;
      is =
          tag_put a.m all out x (length_all a.suite a.key a.nonce.now a.header.now a.m out c.requires.0 key (omega arith))
          (sealed_there a.suite a.key a.nonce.now a.header.now a.m out c.requires.0 key (omega arith) x c.seal_in_place-answer.ensures.1)
          c.put_tag.new.out c.put_tag.ensures;
    }
