-- c are taken away by the first j trigrams of t.
use Rattle.std.proofs.Common.{rules}
use mathlib.Core.Path.{◌≡◌, ap}
use mathlib.Core.List.{◌∷◌}
use Prim.Native.Nat.{◌+◌}
use native.Mathlib.Omega.{arith}
use lib.ListN.{drop}
use Rattle.trigrams.specs.Trigrams.{trigrams}
use Rattle.trigrams.specs.Taken.{taken}
use Rattle.trigrams.proofs.Trigrams.{drop_next, drop_trigrams_all}
use Rattle.trigrams.proofs.Taken.{taken_nil}
use Rattle.tally.specs.Code.{counted}
use Rattle.tally.proofs.Steps.{searched_then}
use Rattle.tally.proofs.Nodes.take_all.Goals as goal

pub loop-j-preserved : goal.loop-j-preserved
loop-j-preserved g c =
    let j = c.loop-j.j in
    let t = c.args.t.now in
    let p = c.loop-j.invariant in
    let q = c.take_one-c.ensures in
    let next : drop c.loop-j.j (trigrams c.args.t.now) ≡ c.at.result ∷ drop (c.loop-j.j + 1) (trigrams c.args.t.now) =
    drop_next t j c.at.result (omega arith) c.at.ensures.is in
    record {
      few = omega (arith, q.small);
      none = q.none;
      long = search rules;
      left = searched_then p.left q.left;
      all = omega (
        arith,
        p.all,
        ap (taken (counted c.loop-j.self c.loop-j.counts)) next,
        q.is (drop (c.loop-j.j + 1) (trigrams c.args.t.now)),
      );
    }

pub returns-clause-is : goal.returns-clause-is
returns-clause-is g c =
    let m = counted c.loop-j.self c.loop-j.counts in
    omega (arith, c.loop-j.invariant.all, ap (taken m) (drop_trigrams_all c.args.t.now c.loop-j.j (omega arith)), taken_nil m)
