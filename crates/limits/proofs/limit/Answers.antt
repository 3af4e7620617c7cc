-- By the laws of the bounds.
use native.Mathlib.Omega.{arith}
use Rattle.limits.proofs.Bounds.{short_nonce, middle_nonce}
use Rattle.limits.proofs.limit.Goals as goal

pub returns-then-n-lt14 : goal.returns-then-n-lt14
returns-then-n-lt14 c =
    short_nonce c.args.bits c.args.n (omega arith) c.if-n-lt14.true

pub returns : goal.returns
returns c =
    middle_nonce c.args.bits c.args.n (omega arith) (omega arith)
