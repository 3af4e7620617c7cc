-- The rules and the S-boxes by their places.
use mathlib.Core.Path.{◌≡◌, refl, sym, ap, ◌∙◌}
use mathlib.Core.List.{List, [], ◌∷◌}
use Prim.Native.Nat.{ℕ, zero, suc, ◌+◌, ◌-◌, ◌/◌, ◌%◌, ◌≤◌, ◌<◌}
use native.Mathlib.Omega.{arith}
use borrow.Author.Tests.{lt-ltb}
use lib.Dec.{lit<}
use lib.ListN.{length, get_or}
use Rattle.bits.specs.Table.{tab}
use Rattle.sbox.specs.Sbox
use Rattle.sbox.proofs.Inverses.{column_layer}
use Rattle.sbox.proofs.Columns.{alone_column}
use Rattle.printed.specs.declared.Half.{Half}
use Rattle.printed.specs.declared.Half.TheVariants.{Low, High}
use Rattle.printed.specs.Printed.{tables, table}
use Rattle.printed.specs.Rule.{Rule, made, product, rules, rule}
use Rattle.printed.proofs.Right.{table_long, entry_byte, made_table}
use Rattle.made_tables.specs.Boxes.{boxes_at, sbox_place, matrix_of, sbox_of, from_at, to_at}
use Rattle.std.specs.Prelude.{Some}
use Rattle.std.proofs.lemmas.List.{get_or_default}
use Rattle.made_tables.specs.Makes.{Makes}
use Rattle.made_tables.specs.declared.Boxes.{Boxes}
use Rattle.made_tables.specs.declared.Boxes.TheVariants.{Scream, ScreamInverse, IScream}

pub lbox_rule : (p : ℕ) → p < 12 → rule p ≡ product (matrix_of (boxes_at (p / 4))) (from_at (p % 4)) (to_at (p % 4))
unfolding rule rules
lbox_rule zero h = refl
lbox_rule (suc zero) h = refl
lbox_rule (suc (suc zero)) h = refl
lbox_rule (suc (suc (suc zero))) h = refl
lbox_rule (suc (suc (suc (suc zero)))) h = refl
lbox_rule (suc (suc (suc (suc (suc zero))))) h = refl
lbox_rule (suc (suc (suc (suc (suc (suc zero)))))) h = refl
lbox_rule (suc (suc (suc (suc (suc (suc (suc zero))))))) h = refl
lbox_rule (suc (suc (suc (suc (suc (suc (suc (suc zero)))))))) h = refl
lbox_rule (suc (suc (suc (suc (suc (suc (suc (suc (suc zero))))))))) h = refl
lbox_rule (suc (suc (suc (suc (suc (suc (suc (suc (suc (suc zero)))))))))) h = refl
lbox_rule (suc (suc (suc (suc (suc (suc (suc (suc (suc (suc (suc zero))))))))))) h = refl
lbox_rule (suc (suc (suc (suc (suc (suc (suc (suc (suc (suc (suc (suc p)))))))))))) h = absurd (omega arith)

-- the code's constants at their places
abbrev group : List Boxes
group = Scream ∷ ScreamInverse ∷ IScream ∷ []

abbrev halves : List (Half × Half)
halves = (Low, High) ∷ (Low, Low) ∷ (High, High) ∷ (High, Low) ∷ []

group_is : (g : ℕ) → g < 3 → get_or group g Scream ≡ boxes_at g
group_is zero h = refl
group_is (suc zero) h = refl
group_is (suc (suc zero)) h = refl
group_is (suc (suc (suc g))) h = absurd (omega arith)

halves_is : (t : ℕ) → t < 4 → get_or halves t (Low, High) ≡ (from_at t, to_at t)
halves_is zero h = refl
halves_is (suc zero) h = refl
halves_is (suc (suc zero)) h = refl
halves_is (suc (suc (suc zero))) h = refl
halves_is (suc (suc (suc (suc t)))) h = absurd (omega arith)

-- the S-boxes are the tables behind those of the L-boxes
behind : (g : ℕ) → g < 3 → sbox_of (boxes_at g) ≡ table (12 + g)
unfolding table tables
behind zero h = refl
behind (suc zero) h = refl
behind (suc (suc zero)) h = refl
behind (suc (suc (suc g))) h = absurd (omega arith)

pub sbox_place_lem : (p : ℕ) → 12 ≤ p → p < 15 → sbox_of (boxes_at (p - 12)) ≡ table p
sbox_place_lem p l h =
    let e : 12 + (p - 12) ≡ p = omega arith in
    behind (p - 12) (omega arith) ∙ ap table e

-- an S-box is the table at its place
pub sbox_at : (x : Boxes) → sbox_of x ≡ table (sbox_place x)
unfolding table tables
sbox_at Scream = refl
sbox_at ScreamInverse = refl
sbox_at IScream = refl

pub sbox_long : (x : Boxes) → length (sbox_of x) ≡ 256
unfolding table tables
sbox_long Scream = table_long 12 (lit< tt)
sbox_long ScreamInverse = table_long 13 (lit< tt)
sbox_long IScream = table_long 14 (lit< tt)

pub sbox_byte : (x : Boxes) (b : ℕ) → b < 256 → get_or (sbox_of x) b 0 < 256
unfolding table tables
sbox_byte Scream = entry_byte 12 (lit< tt)
sbox_byte ScreamInverse = entry_byte 13 (lit< tt)
sbox_byte IScream = entry_byte 14 (lit< tt)

-- a byte alone in column 0 goes to the entry that it chooses
pub through : (x : Boxes) (b : ℕ) → b < 256 → Sbox.column (Sbox.layer (sbox_of x) (Sbox.alone b)) 0 ≡ get_or (sbox_of x) b 0
through x b h =
    let e = alone_column b h in
    column_layer (sbox_of x) (Sbox.alone b) 0 (lit< tt) (rw e (sbox_byte x b h)) ∙ ap (λ (c : ℕ). get_or (sbox_of x) c 0) e

-- what the maker answers
makes_one : (p : ℕ) {made : List ℕ} → p < 15 → made ≡ table p → Makes p (Some made)
makes_one p h e = let y = lt-ltb p 15 h in record { says = rw y (ap Some e) }

pub lbox_makes : (p : ℕ) → p < 12 → {r : List ℕ} {x : Boxes} {from to : Half} → r ≡ tab 256 (made (product (matrix_of x) from to))
    → x ≡ get_or group (p / 4) Scream → from ≡ (get_or halves (p % 4) (Low, High)).0 → to ≡ (get_or halves (p % 4) (Low, High)).1
    → Makes p (Some r)
lbox_makes p h e ex ef et =
    let l : p < 15 = omega arith in
    let x = ex ∙ group_is (p / 4) (omega arith) in
    let t = halves_is (p % 4) (omega arith) in
    makes_one p l
    (e
    ∙ (λ i. tab 256 (made (product (matrix_of (x i)) (ef i) (et i))))
    ∙ (λ i. tab 256 (made (product (matrix_of (boxes_at (p / 4))) (t i).0 (t i).1)))
    ∙ sym (ap (λ (r : Rule). tab 256 (made r)) (lbox_rule p h))
    ∙ made_table p l)

pub sbox_makes : (p : ℕ) → 12 ≤ p → p - 12 < 3 → {r : List ℕ} {x : Boxes} → r ≡ sbox_of x → x ≡ get_or group (p - 12) x
    → Makes p (Some r)
sbox_makes p l h e ex =
    let x = ex ∙ get_or_default group (p - 12) _ Scream h ∙ group_is (p - 12) h in
    makes_one p (omega arith) (e ∙ ap sbox_of x ∙ sbox_place_lem p l (omega arith))
