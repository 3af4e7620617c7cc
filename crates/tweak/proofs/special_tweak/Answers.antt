-- By what it calls.
use Rattle.tweak.proofs.Fills.{tweak_alone}
use Rattle.tweak.proofs.special_tweak.Goals as goal

pub returns : goal.returns
returns c =
    let b = c in
    let a = b.args in
    tweak_alone a.nonce.now a.byte 0 b.based.ensures c.put_marked.ensures
