-- Every element of two lists.
use mathlib.Core.Path.{◌≡◌}
use mathlib.Core.List.{List, [], ◌∷◌, ◌++◌}
use Prim.Native.Nat.{ℕ, suc, ◌+◌}
use native.Mathlib.Nat.{add-zero}
use native.Mathlib.Omega.{arith}
use lib.ListN.{length}
use Rattle.fields.specs.Each.{Each, none, more, EachFrom, none_from, more_from}

pub each_append : {A : Type 0} {P : A → Type 0} {x y : List A} → Each P x → Each P y → Each P (x ++ y)
each_append none q = q
each_append (more p ps) q = more p (each_append ps q)

-- with their numbers

next : {A : Type 0} (n : ℕ) (a : A) (l : List A) → n + length (a ∷ l) ≡ suc n + length l
next n a l = omega arith

module _ {A : Type 0} {P : ℕ → A → Type 0} where
  pub each_from_append : {n : ℕ} {x y : List A} → EachFrom P n x → EachFrom P (n + length x) y → EachFrom P n (x ++ y)
  each_from_append none_from q = rw add-zero at q
  each_from_append {n} (more_from {a = a} {l} p ps) q = more_from p (each_from_append ps (rw (next n a l) at q))

  pub each_from_left : {n : ℕ} (x y : List A) → EachFrom P n (x ++ y) → EachFrom P n x
  each_from_left [] y e = none_from
  each_from_left (a ∷ x) y (more_from p e) = more_from p (each_from_left x y e)

  -- the element behind the first list
  pub each_from_at : {n : ℕ} (x : List A) (a : A) (y : List A) → EachFrom P n (x ++ a ∷ y) → P (n + length x) a
  each_from_at [] a y (more_from p e) = rw add-zero p
  each_from_at {n} (b ∷ x) a y (more_from p e) = rw (next n b x) (each_from_at x a y e)
