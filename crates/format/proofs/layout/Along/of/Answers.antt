-- The one behind the other, then zeros.
use mathlib.Core.Path.{◌≡◌, sym, ap, ◌∙◌}
use mathlib.Core.List.{List, ◌++◌, append_assoc}
use Prim.Native.Nat.{ℕ, ◌+◌, ◌-◌, ◌≤◌}
use native.Mathlib.Omega.{arith}
use lib.ListN.{length, take, drop, replicate, length-append}
use lib.Seq.{take_at, drop_at}
use Rattle.std.proofs.lemmas.List.{drop-replicate, length-replicate}
use Rattle.format.proofs.layout.Along.of.Goals as goal

module _ (a b x : List ℕ) (few : length a + length b ≤ 48) (is : x ≡ a ++ (b ++ drop (length a + length b) (replicate 48 0))) where
  long : length (a ++ b) ≡ length a + length b
  long = length-append a b

  behind : x ≡ (a ++ b) ++ replicate (48 - (length a + length b)) 0
  behind = is ∙ sym (append_assoc a b _) ∙ ap (λ (l : List ℕ). (a ++ b) ++ l) (drop-replicate (length a + length b) 48 0)

  whole : length x ≡ 48
  whole = rw behind (simp (length-append, length-replicate) (omega arith))

  rest : drop (length a + length b) x ≡ replicate (48 - (length a + length b)) 0
  rest = ap (drop (length a + length b)) behind ∙ drop_at (a ++ b) _ _ long

  both : take (length a + length b) x ≡ a ++ b
  both = ap (take (length a + length b)) behind ∙ take_at (a ++ b) _ _ long

pub invariant_of-result : goal.invariant_of-result
invariant_of-result c =
    let f = c.args.front.now in
    let h = c.args.header.now in
    (c.requires, whole f h c.join.new.out c.requires c.join.ensures, rest f h c.join.new.out c.requires c.join.ensures)

pub returns : goal.returns
returns c = both c.args.front.now c.args.header.now c.join.new.out c.requires c.join.ensures
