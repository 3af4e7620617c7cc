-- Laws of the score.
use mathlib.Core.Path.{◌≡◌, refl, sym, ap, ◌∙◌}
use mathlib.Core.Bool.{Bool, true, false, cond, and-eq-true_iff}
use mathlib.Core.List.{List}
use Prim.Native.Nat.{ℕ, ◌+◌, ◌*◌, ◌/◌, ◌≤◌}
use native.Mathlib.Nat.{add_comm, div-eq_of_eq-mul_left}
use native.Mathlib.Decide.{ℕ_discrete}
use native.Mathlib.Omega.{arith}
use borrow.Author.Tests.{eqb-true, eq-eqb, ne_eqb}
use lib.Dec.{eqb}
use lib.ListN.{length}
use Rattle.std.specs.Bool.{Decides}
use Rattle.bits.specs.Bytes.{same_bytes}
use Rattle.bits.proofs.Same.{same_equal, same_refl}
use Rattle.trigrams.specs.Trigrams.{trigrams, shared}
use Rattle.trigrams.proofs.Common.{shared_le, shared_le_left, shared_self, shared_sym}
use Rattle.score.specs.Score.{equal_segments, score_by, score}
use Rattle.score.specs.Laws.{ScoreLaws}
use Rattle.score.proofs.Quotients.{quotient_le}

-- segments that are found equal are equal, and the other way round
pub equal_self : (x : List ℕ) → equal_segments x x ≡ true
unfolding equal_segments
equal_self x = rw (eq-eqb (length x) (length x) refl) (same_refl (length x) x)

pub equal_means : (x y : List ℕ) → equal_segments x y ≡ true → x ≡ y
unfolding equal_segments
equal_means x y e =
    let both = (and-eq-true_iff (eqb (length x) (length y)) (same_bytes (length x) x y)).0 e in
    same_equal (length x) x y refl (sym (eqb-true (length x) (length y) both.0)) both.1

-- what decides whether two segments are the same bytes is the definition's answer
pub equal_decided : (x y : List ℕ) (r : Bool) → Decides r (x ≡ y) → equal_segments x y ≡ r
equal_decided x y true d = ap (equal_segments x) (sym (d.0 refl)) ∙ equal_self x
equal_decided x y false d = at (equal_segments x y) refl
  where
    at : (b : Bool) → equal_segments x y ≡ b → equal_segments x y ≡ false
    at false p = p
    at true p = let q = d.1 (equal_means x y p) in absurd cc

pub equal_sym : (x y : List ℕ) → equal_segments x y ≡ equal_segments y x
equal_sym x y = at (equal_segments x y) (equal_segments y x) refl refl
  where
    at : (a b : Bool) → equal_segments x y ≡ a → equal_segments y x ≡ b → a ≡ b
    at true true p q = refl
    at false false p q = refl
    at true false p q = sym (equal_self x) ∙ ap (λ z. equal_segments z x) (equal_means x y p) ∙ q
    at false true p q = sym p ∙ ap (λ z. equal_segments z y) (sym (equal_means y x q)) ∙ equal_self y

-- the score is at most 1,000
pub score_by_le : (c n : ℕ) (equal : Bool) → 2 * c ≤ n → score_by c n equal ≤ 1000
unfolding score_by
score_by_le c n equal h = at (eqb n 0) equal
  where
    at : (b e : Bool) → cond b (cond e 1000 0) (2000 * c / n) ≤ 1000
    at true true = omega arith
    at true false = omega arith
    at false e = quotient_le c n h

pub score_le : (x y : List ℕ) → score x y ≤ 1000
unfolding score
score_le x y =
    score_by_le (shared (trigrams x) (trigrams y)) (length (trigrams x) + length (trigrams y)) (equal_segments x y)
    (omega (arith, shared_le (trigrams x) (trigrams y), shared_le_left (trigrams x) (trigrams y)))

-- a segment scores 1,000 against itself
pub score_self : (x : List ℕ) → score x x ≡ 1000
unfolding score score_by
score_self x = rw (shared_self (trigrams x), equal_self x) (at (length (trigrams x)) (ℕ_discrete (length (trigrams x)) 0))
  where
    at : (p : ℕ) → Dec (p ≡ 0) → cond (eqb (p + p) 0) 1000 (2000 * p / (p + p)) ≡ 1000
    at p (yes z) = rw (eq-eqb (p + p) 0 (omega arith))
    at p (no d) = rw (ne_eqb (p + p) 0 (omega arith)) (div-eq_of_eq-mul_left (omega arith) (omega arith))

-- it is the same both ways round
pub score_sym : (x y : List ℕ) → score x y ≡ score y x
unfolding score
score_sym x y =
    rw (shared_sym (trigrams x) (trigrams y), add_comm (length (trigrams x)) (length (trigrams y)), equal_sym x y)

pub score_laws : ScoreLaws
score_laws =
    record {
      most = score_le;
      self = score_self;
      both = score_sym;
      equal = λ x y. (equal_means x y, λ e. ap (equal_segments x) (sym e) ∙ equal_self x);
      first = λ x y. shared_le_left (trigrams x) (trigrams y);
      second = λ x y. shared_le (trigrams x) (trigrams y);
    }
