-- The levels as the code does them: word by word within a row, and row by row.
use mathlib.Core.Path.{◌≡◌, refl, sym, ap, subst, ◌∙◌}
use mathlib.Core.Bool.{Bool, true, false, cond, ◌||◌}
use mathlib.Core.List.{List, []}
use Prim.Native.Nat.{ℕ, zero, suc, ◌+◌, ◌/◌, ◌%◌}
use native.Mathlib.Numerals.{add-one}
use lib.Dec.{eqb}
use borrow.Author.Tests.{eqb-true, ne_eqb}
use lib.ListN.{length, get_or, set}
use Rattle.bits.specs.Table.{tab}
use Rattle.bits.proofs.Elements.{tab_of}
use Rattle.transposition.specs.Levels.{in_a_row, between_rows, lower, upper, level, within, level_in, turned_row, exchanged_rows}

module _ (m : ℕ) (x : List (List ℕ)) where
  rows-1 : level 1 m x ≡ tab 8 (λ i. level_in 1 m (get_or x i []))
  unfolding level level_in
  rows-1 = refl

  rows-2 : level 2 m x ≡ tab 8 (λ i. level_in 2 m (get_or x i []))
  unfolding level level_in
  rows-2 = refl

  rows-4 : level 4 m x ≡ tab 8 (λ i. level_in 4 m (get_or x i []))
  unfolding level level_in
  rows-4 = refl

  rows-8 : level 8 m x ≡ tab 8 (λ i. level_in 8 m (get_or x i []))
  unfolding level level_in
  rows-8 = refl

-- f on each row
abbrev on_rows : (List ℕ → List ℕ) → List (List ℕ) → List (List ℕ)
on_rows f x = tab 8 (λ i. f (get_or x i []))

pub within_rows : (x : List (List ℕ)) → tab 8 (λ i. turned_row (get_or x i [])) ≡ within x
unfolding within turned_row
within_rows x =
    sym
    (rows-8 0x00FF00FF00FF00FF _
    ∙ ap (on_rows (level_in 8 0x00FF00FF00FF00FF))
    (rows-4 0x0F0F0F0F0F0F0F0F _
    ∙ ap (on_rows (level_in 4 0x0F0F0F0F0F0F0F0F))
    (rows-2 0x3333333333333333 _ ∙ ap (on_rows (level_in 2 0x3333333333333333)) (rows-1 0x5555555555555555 x))))

-- The words before c done, each with the one d further on, one after the other.
abbrev pub exchange_in : ℕ → ℕ → List ℕ → ℕ → List ℕ
exchange_in d m r c = set (set r c (lower d m (get_or r c 0) (get_or r (c + d) 0))) (c + d) (upper d m (get_or r c 0) (get_or r (c + d) 0))

abbrev pub exchanges_in : ℕ → ℕ → ℕ → List ℕ → List ℕ
exchanges_in d m zero r = r
exchanges_in d m (suc c) r = cond (eqb (c / d % 2) 0) (exchange_in d m (exchanges_in d m c r) c) (exchanges_in d m c r)

-- the rows before i likewise
abbrev pub exchanges : ℕ → ℕ → ℕ → List (List ℕ) → List (List ℕ)
exchanges d m zero x = x
exchanges d m (suc i) x = cond (eqb (i / (d / 16) % 2) 0) (exchanged_rows d m (d / 16) (exchanges d m i x) i) (exchanges d m i x)

-- one more of them
first : {A : Type 0} (x y : A) (n : ℕ) → n ≡ 0 → cond (eqb n 0) x y ≡ x
first x y n e = rw e

second : {A : Type 0} (x y : A) (n : ℕ) → (n ≡ 0 → ⊥) → cond (eqb n 0) x y ≡ y
second x y n d = rw (ne_eqb n 0 d)

pub one_more_in : (d m c : ℕ) (r : List ℕ) {s t : List ℕ} → s ≡ exchanges_in d m c r → c / d % 2 ≡ 0 → t ≡ exchange_in d m s c
    → t ≡ exchanges_in d m (c + 1) r
one_more_in d m c r e f p = rw add-one (p ∙ ap (λ (z : List ℕ). exchange_in d m z c) e ∙ sym (first _ _ (c / d % 2) f))

pub no_more_in : (d m c : ℕ) (r : List ℕ) {s t : List ℕ} → s ≡ exchanges_in d m c r → (c / d % 2 ≡ 0 → ⊥) → t ≡ s → t ≡ exchanges_in d m (c + 1) r
no_more_in d m c r e f p = rw add-one (p ∙ e ∙ sym (second _ _ (c / d % 2) f))

pub one_more : (d m i : ℕ) (x : List (List ℕ)) {y z : List (List ℕ)} → y ≡ exchanges d m i x → i / (d / 16) % 2 ≡ 0
    → z ≡ exchanged_rows d m (d / 16) y i → z ≡ exchanges d m (i + 1) x
one_more d m i x e f p =
    rw add-one (p ∙ ap (λ (z : List (List ℕ)). exchanged_rows d m (d / 16) z i) e ∙ sym (first _ _ (i / (d / 16) % 2) f))

pub no_more : (d m i : ℕ) (x : List (List ℕ)) {y z : List (List ℕ)} → y ≡ exchanges d m i x → (i / (d / 16) % 2 ≡ 0 → ⊥) → z ≡ y
    → z ≡ exchanges d m (i + 1) x
no_more d m i x e f p = rw add-one (p ∙ e ∙ sym (second _ _ (i / (d / 16) % 2) f))

-- d is n, or one of the others
last : (P : ℕ → Type 0) (d n : ℕ) → P n → eqb d n ≡ true → P d
last P d n p e = subst P (sym (eqb-true d n e)) p

one-of : (P : ℕ → Type 0) (d n : ℕ) (b : Bool) → P n → (b ≡ true → P d) → (eqb d n || b) ≡ true → P d
one-of P d n b p q t = by (eqb d n) refl t
  where
    by : (f : Bool) → eqb d n ≡ f → (f || b) ≡ true → P d
    by true e t = last P d n p e
    by false e t = q t

-- all of them are a level
module _ (m : ℕ) (r : List ℕ) (long : length r ≡ 16) where
  all-in : ℕ → List ℕ → Type 0
  all-in d z = exchanges_in d m 16 z ≡ level_in d m z

  at-in : (d : ℕ) → all-in d (tab 16 (λ i. get_or r i 0)) → all-in d r
  at-in d = subst (all-in d) (tab_of 0 16 r long)

  pub exchanged_all_in : (d : ℕ) → in_a_row d ≡ true → exchanges_in d m 16 r ≡ level_in d m r
  unfolding level_in all-in
  exchanged_all_in d =
      let P = λ (d : ℕ). all-in d r in
      one-of P d 1 _ (at-in 1 refl) (one-of P d 2 _ (at-in 2 refl) (one-of P d 4 _ (at-in 4 refl) (last P d 8 (at-in 8 refl))))

module _ (m : ℕ) (x : List (List ℕ)) (long : length x ≡ 8) where
  all-rows : ℕ → List (List ℕ) → Type 0
  all-rows d z = exchanges d m 8 z ≡ level d m z

  at-rows : (d : ℕ) → all-rows d (tab 8 (λ i. get_or x i [])) → all-rows d x
  at-rows d = subst (all-rows d) (tab_of [] 8 x long)

  pub exchanged_all : (d : ℕ) → between_rows d ≡ true → exchanges d m 8 x ≡ level d m x
  unfolding level exchanged_rows all-rows
  exchanged_all d =
      let P = λ (d : ℕ). all-rows d x in
      one-of P d 16 _ (at-rows 16 refl) (last P d 32 (at-rows 32 refl))
