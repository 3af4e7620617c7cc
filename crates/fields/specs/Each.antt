-- Every element of a list.
use Rattle.std.specs.Prelude.{List, [], ◌∷◌, ℕ, suc}

pub data Each {A : Type 0} (P : A → Type 0) : List A → Type 0 where
  none : Each P []
  more : {a : A} {l : List A} → P a → Each P l → Each P (a ∷ l)

-- every element with its number, where they are counted from n on
pub data EachFrom {A : Type 0} (P : ℕ → A → Type 0) : ℕ → List A → Type 0 where
  none_from : {n : ℕ} → EachFrom P n []
  more_from : {n : ℕ} {a : A} {l : List A} → P n a → EachFrom P (suc n) l → EachFrom P n (a ∷ l)
