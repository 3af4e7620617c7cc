-- A node of another trigram is passed; the sentinel ends the search.
use mathlib.Core.Path.{◌≡◌, sym, ap, ◌∙◌}
use mathlib.Core.List.{List}
use Prim.Native.Nat.{ℕ, zero, suc, ◌<◌}
use native.Mathlib.Omega.{arith}
use lib.ListN.{get_or}
use Rattle.tally.specs.Tally.{look}
use Rattle.tally.proofs.Chains.{look_here, look_on}
use Rattle.tally.proofs.search.Goals as goal

not_first : (l : List ℕ) (v k : ℕ) → get_or l 0 0 ≡ v → (get_or l k 0 ≡ v → ⊥) → 0 < k
not_first l v zero e d = absurd (d e)
not_first l v (suc k) e d = omega arith

pub loop-k-preserved : goal.loop-k-preserved
loop-k-preserved c =
    let a = c.args in
    let k = c.loop-k.k in
    let positive : 0 < k = not_first a.keys.now a.v k c.requires.ends c.loop-k-test.true in
    record {
      within = omega (arith, c.from-k.ensures, c.requires.down.below k positive);
      ahead =
          c.loop-k.invariant.ahead
          ∙ look_on c.requires.down (λ j. get_or a.keys.now j 0) a.v k positive c.loop-k-test.true
          ∙ ap (λ (j : ℕ). look a.next.now (λ i. get_or a.keys.now i 0) a.v j j) (sym c.from-k.ensures);
    }

pub returns : goal.returns
returns c =
    let a = c.args in
    record {
      is = sym (c.loop-k.invariant.ahead ∙ look_here a.next.now (λ j. get_or a.keys.now j 0) a.v c.loop-k.k c.loop-k-test.false);
      within = c.loop-k.invariant.within;
    }
