use mathlib.Core.Path.{◌≡◌, sym, ap, ◌∙◌}
use mathlib.Core.Bool.{true, false}
use Prim.Native.Nat.{ℕ, ◌+◌, ◌-◌, ◌*◌, ◌/◌}
use native.Mathlib.Omega.{arith}
use lib.ListN.{length}
use Rattle.std.proofs.lemmas.Bool.Decides.{Decides-eqb}
use Rattle.std.proofs.lemmas.Slice.Eq.{slice_eq-Decides}
use Rattle.score.proofs.Laws.{equal_decided}
use Rattle.score.proofs.Quotients.{quotient_le}
use Rattle.score.proofs.Scores.{score_none, score_some, shared_twice}
use Rattle.score.proofs.score_by.Goals as goal

pub returns-then-eq : goal.returns-then-eq
returns-then-eq c =
    let a = c.args in
    let sum : c.number_in.result + c.number_in-2.result ≡ length a.a.now - 2 + (length a.b.now - 2) =
    omega (arith, c.number_in.ensures, c.number_in-2.ensures) in
    let z = sym sum ∙ c.if-n-eq0.true in
    let found = slice_eq-Decides Decides-eqb a.a.now a.b.now true (sym c.if-eq.true ∙ c.eq.ensures) in (
      sym (score_none a.a.now a.b.now z true (equal_decided a.a.now a.b.now true found)),
      omega arith,
    )

pub returns-then-n-eq0 : goal.returns-then-n-eq0
returns-then-n-eq0 c =
    let a = c.args in
    let sum : c.number_in.result + c.number_in-2.result ≡ length a.a.now - 2 + (length a.b.now - 2) =
    omega (arith, c.number_in.ensures, c.number_in-2.ensures) in
    let z = sym sum ∙ c.if-n-eq0.true in
    let found = slice_eq-Decides Decides-eqb a.a.now a.b.now false (sym c.if-eq.false ∙ c.eq.ensures) in (
      sym (score_none a.a.now a.b.now z false (equal_decided a.a.now a.b.now false found)),
      omega arith,
    )

pub quotient-requires : goal.quotient-requires
quotient-requires c =
    let a = c.args in
    let sum : c.number_in.result + c.number_in-2.result ≡ length a.a.now - 2 + (length a.b.now - 2) =
    omega (arith, c.number_in.ensures, c.number_in-2.ensures) in
    (omega (arith, c.if-n-eq0.false), omega (arith, sum, shared_twice a.a.now a.b.now a.c c.requires))

pub returns : goal.returns
returns c =
    let a = c.args in
    let sum : c.number_in.result + c.number_in-2.result ≡ length a.a.now - 2 + (length a.b.now - 2) =
    omega (arith, c.number_in.ensures, c.number_in-2.ensures) in
    let n = length a.a.now - 2 + (length a.b.now - 2) in
    let q : c.quotient.result ≡ 2000 * a.c / n = c.quotient.ensures ∙ ap (λ (k : ℕ). 2000 * a.c / k) sum in (
      q ∙ sym (score_some a.a.now a.b.now a.c c.requires (λ z. c.if-n-eq0.false (sum ∙ z))),
      omega (arith, q, quotient_le a.c n (shared_twice a.a.now a.b.now a.c c.requires)),
    )
