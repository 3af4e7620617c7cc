-- The number goes over the base, and the mark into its first byte.
use mathlib.Core.Path.{refl}
use native.Mathlib.Omega.{arith}
use Rattle.tweak.proofs.Fills.{marked_put}
use Rattle.tweak.proofs.put_marked.Goals as goal

pub returns : goal.returns
returns c =
    let a = c.args in
    marked_put a.d.now a.base a.at a.n a.mark a.number (omega arith) (omega arith) (omega arith) c.put_at.ensures c.put_number.ensures refl
