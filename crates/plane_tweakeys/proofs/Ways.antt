-- Eight rows of planes together: how each of the 64 states goes.
use mathlib.Core.Path.{◌≡◌, refl, sym, ap, subst, ◌∙◌}
use mathlib.Core.List.{List, [], ◌∷◌, ◌++◌}
use Prim.Native.Nat.{ℕ, zero, suc, ◌+◌, ◌^◌, ◌<◌}
use native.Mathlib.Decide.{ℕ_discrete}
use native.Mathlib.Omega.{arith}
use lib.Bits.{bit_xor, xor_comm}
use lib.ListN.{length, get_or, set, length-set}
use lib.Seq.{get_or-set_same, get_or-set_other}
use Rattle.bits.specs.Table.{tab}
use Rattle.bits.proofs.Bits.{xor_twice}
use Rattle.bits.proofs.Elements.{tab_long, tab_at, tab_of}
use Rattle.bits.proofs.Lists.{get_or_tab, tab_ext, tab_get_or}
use Rattle.planes.specs.Planes.{row_at, lane, Shaped, Goes}
use Rattle.state.specs.Rows.{add_rows}
use Rattle.rounds.specs.Cipher.{add_constant}
use Rattle.rounds.specs.Tweakey.{φ, rotated, rotated_row}
use Rattle.plane_tweakeys.specs.Shared.{Shared, spread}
use Rattle.plane_tweakeys.specs.PlaneRows.{add_planes, rotated_planes}
use Rattle.plane_tweakeys.proofs.Rows.{added_row, rotated_row_lem, spread_row}

-- a + b + a is b
xor_between : (a b : ℕ) → bit_xor (bit_xor a b) a ≡ b
xor_between a b = ap (λ (n : ℕ). bit_xor n a) (xor_comm a b) ∙ xor_twice b a

pub rows_comm : (x y : List ℕ) → add_rows x y ≡ add_rows y x
unfolding add_rows
rows_comm x y = tab_ext 8 (λ i. bit_xor (get_or x i 0) (get_or y i 0)) (λ i. bit_xor (get_or y i 0) (get_or x i 0)) (λ i h. xor_comm (get_or x i 0) (get_or y i 0))

module _ (f : ℕ → List ℕ) where
  -- eight rows of sixteen planes
  tab-shaped : ((i : ℕ) → i < 8 → length (f i) ≡ 16) → Shaped (tab 8 f)
  tab-shaped l = record { long = tab_long 8 f; wide = λ i h. ap length (tab_at [] 8 f i h) ∙ l i h }

  -- a state in them, by its rows
  tab-lane : (b : ℕ) (w : ℕ → ℕ) → ((i : ℕ) → i < 8 → row_at (f i) b ≡ w i) → lane (tab 8 f) b ≡ tab 8 w
  unfolding lane
  tab-lane b w e = tab_ext 8 (λ i. row_at (get_or (tab 8 f) i []) b) w (λ i h. ap (λ (r : List ℕ). row_at r b) (tab_at [] 8 f i h) ∙ e i h)

lane_row : (x : List (List ℕ)) (b i : ℕ) → i < 8 → get_or (lane x b) i 0 ≡ row_at (get_or x i []) b
unfolding lane
lane_row x b = get_or_tab 8 (λ i. row_at (get_or x i []) b)

-- t's states added to x's
pub added_goes : (t : List (List ℕ)) {x y : List (List ℕ)}
    → y ≡ tab 8 (λ i. add_planes (get_or x i []) (get_or t i [])) → Goes (λ b w. add_rows w (lane t b)) x y
unfolding add_planes add_rows
added_goes t {x} {y} e =
    rw e
    (record {
      shape = tab-shaped (λ i. add_planes (get_or x i []) (get_or t i [])) (λ i h. refl);
      lanes = λ b hb.
          tab-lane (λ i. add_planes (get_or x i []) (get_or t i [])) b (λ i. bit_xor (get_or (lane x b) i 0) (get_or (lane t b) i 0))
          (λ i h. added_row (get_or x i []) (get_or t i []) b ∙ (λ k. bit_xor (sym (lane_row x b i h) k) (sym (lane_row t b i h) k)));
    })

-- another row 0
module _ (x : List (List ℕ)) (s : Shaped x) (r : List ℕ) where
  first-shaped : length r ≡ 16 → Shaped (set x 0 r)
  first-shaped e = record { long = length-set x 0 r ∙ s.long; wide = wide }
    where
      wide : (i : ℕ) → i < 8 → length (get_or (set x 0 r) i []) ≡ 16
      wide zero h = ap length (get_or-set_same x 0 r [] (rw s.long h)) ∙ e
      wide (suc i) h = ap length (get_or-set_other x 0 (suc i) r [] (λ q. omega arith)) ∙ s.wide (suc i) h

  first_lane : (b : ℕ) → lane (set x 0 r) b ≡ set (lane x b) 0 (row_at r b)
  unfolding lane
  first_lane b = subst (λ (z : List (List ℕ)). lane (set z 0 r) b ≡ set (lane z b) 0 (row_at r b)) (tab_of [] 8 x s.long) refl

-- c added to row 0 of every state
pub constant_goes : (c : ℕ) → c < 2 ^ 16 → {x y : List (List ℕ)} → Shaped x
    → y ≡ set x 0 (add_planes (get_or x 0 []) (spread c)) → Goes (λ b. add_constant c) x y
unfolding add_planes add_constant
constant_goes c hc {x} s e =
    let r : List ℕ = add_planes (get_or x 0 []) (spread c) in
    rw e
    (record {
      shape = first-shaped x s r refl;
      lanes = λ b hb.
          first_lane x s r b
          ∙ ap (set (lane x b) 0)
          (added_row (get_or x 0 []) (spread c) b ∙ (λ k. bit_xor (sym (lane_row x b 0 (omega arith)) k) (spread_row c hc b hb k)));
    })

-- the rows of w, each spread
pub spread_shared : (w : List ℕ) → length w ≡ 8 → ((i : ℕ) → get_or w i 0 < 2 ^ 16)
    → {x : List (List ℕ)} → x ≡ tab 8 (λ i. spread (get_or w i 0)) → Shared w x
unfolding spread
spread_shared w l f e =
    rw e
    (record {
      shape = tab-shaped (λ i. spread (get_or w i 0)) (λ i h. refl);
      lanes = λ b hb. tab-lane (λ i. spread (get_or w i 0)) b (λ i. get_or w i 0) (λ i h. spread_row (get_or w i 0) (f i) b hb) ∙ tab_get_or 8 w l;
    })

-- eight rows, of which the first k of each half are given
pub record Halves (f g : ℕ → List ℕ) (k : ℕ) (y : List (List ℕ)) : Type 0 where
  pub long : length y ≡ 8
  pub first : (i : ℕ) → i < k → get_or y i [] ≡ f i
  pub second : (i : ℕ) → i < k → get_or y (i + 4) [] ≡ g i

pub halves_none : (f g : ℕ → List ℕ) (y : List (List ℕ)) → length y ≡ 8 → Halves f g 0 y
halves_none f g y e = record { long = e; first = λ i h. absurd (omega arith); second = λ i h. absurd (omega arith) }

pub halves_more : {f g : ℕ → List ℕ} {k : ℕ} {y : List (List ℕ)} → Halves f g k y → k < 4 → (r s : List ℕ) → r ≡ f k → s ≡ g k
    → Halves f g (k + 1) (set (set y k r) (k + 4) s)
halves_more {f} {g} {k} {y} h hk r s er es =
    record {
      long = length-set (set y k r) (k + 4) s ∙ length-set y k r ∙ h.long;
      first = λ i hi. get_or-set_other (set y k r) (k + 4) i s [] (λ q. omega arith) ∙ one i hi (ℕ_discrete i k);
      second = λ i hi. two i hi (ℕ_discrete i k);
    }
  where
    one : (i : ℕ) → i < k + 1 → Dec (i ≡ k) → get_or (set y k r) i [] ≡ f i
    one i hi (yes q) = rw q (get_or-set_same y k r [] (rw h.long (omega arith)) ∙ er)
    one i hi (no d) = get_or-set_other y k i r [] d ∙ h.first i (omega arith)

    two : (i : ℕ) → i < k + 1 → Dec (i ≡ k) → get_or (set (set y k r) (k + 4) s) (i + 4) [] ≡ g i
    two i hi (yes q) = rw q (get_or-set_same (set y k r) (k + 4) s [] (rw (length-set y k r ∙ h.long) (omega arith)) ∙ es)
    two i hi (no d) =
        get_or-set_other (set y k r) (k + 4) (i + 4) s [] (λ q. d (omega arith))
        ∙ get_or-set_other y k (i + 4) r [] (λ q. omega arith)
        ∙ h.second i (omega arith)

pub halves_all : {f g : ℕ → List ℕ} {y : List (List ℕ)} → Halves f g 4 y → y ≡ tab 4 f ++ tab 4 g
halves_all {f} {g} {y} h =
    sym (tab_of [] 8 y h.long)
    ∙ cc (
      h.first 0 (omega arith),
      h.first 1 (omega arith),
      h.first 2 (omega arith),
      h.first 3 (omega arith),
      h.second 0 (omega arith),
      h.second 1 (omega arith),
      h.second 2 (omega arith),
      h.second 3 (omega arith),
    )

halves-shaped : (f g : ℕ → List ℕ) → ((i : ℕ) → length (f i) ≡ 16) → ((i : ℕ) → length (g i) ≡ 16) → Shaped (tab 4 f ++ tab 4 g)
halves-shaped f g l m = record { long = refl; wide = wide }
  where
    wide : (i : ℕ) → i < 8 → length (get_or (tab 4 f ++ tab 4 g) i []) ≡ 16
    wide zero h = l 0
    wide (suc zero) h = l 1
    wide (suc (suc zero)) h = l 2
    wide (suc (suc (suc zero))) h = l 3
    wide (suc (suc (suc (suc i)))) h = ap length (tab_at [] 4 g i (omega arith)) ∙ m i

-- row i of state b
row : List (List ℕ) → ℕ → ℕ → ℕ
row x i b = row_at (get_or x i []) b

-- φ, and t's states added
pub phi_added_goes : (t : List (List ℕ)) {x y : List (List ℕ)}
    → y ≡ tab 4 (λ i. add_planes (add_planes (get_or x i []) (get_or x (i + 4) [])) (get_or t i []))
    ++ tab 4 (λ i. add_planes (get_or x i []) (get_or t (i + 4) []))
    → Goes (λ b w. add_rows (φ w) (lane t b)) x y
unfolding add_planes lane φ add_rows row
phi_added_goes t {x} e =
    rw e
    (record {
      shape =
          halves-shaped (λ i. add_planes (add_planes (get_or x i []) (get_or x (i + 4) [])) (get_or t i []))
          (λ i. add_planes (get_or x i []) (get_or t (i + 4) [])) (λ i. refl) (λ i. refl);
      lanes = λ b hb. λ k. first 0 b k ∷ first 1 b k ∷ first 2 b k ∷ first 3 b k ∷ second 0 b k ∷ second 1 b k ∷ second 2 b k ∷ second 3 b k ∷ [];
    })
  where
    first : (i b : ℕ) → row_at (add_planes (add_planes (get_or x i []) (get_or x (i + 4) [])) (get_or t i [])) b
        ≡ bit_xor (bit_xor (row x i b) (row x (i + 4) b)) (row t i b)
    first i b =
        added_row (add_planes (get_or x i []) (get_or x (i + 4) [])) (get_or t i []) b
        ∙ ap (λ (n : ℕ). bit_xor n (row t i b)) (added_row (get_or x i []) (get_or x (i + 4) []) b)

    second : (i b : ℕ) → row_at (add_planes (get_or x i []) (get_or t (i + 4) [])) b ≡ bit_xor (row x i b) (row t (i + 4) b)
    second i b = added_row (get_or x i []) (get_or t (i + 4) []) b

-- φ twice, and t's states added
pub phi_phi_added_goes : (t : List (List ℕ)) {x y : List (List ℕ)}
    → y ≡ tab 4 (λ i. add_planes (get_or x (i + 4) []) (get_or t i []))
    ++ tab 4 (λ i. add_planes (add_planes (get_or x i []) (get_or x (i + 4) [])) (get_or t (i + 4) []))
    → Goes (λ b w. add_rows (φ (φ w)) (lane t b)) x y
unfolding add_planes lane φ add_rows row
phi_phi_added_goes t {x} e =
    rw e
    (record {
      shape =
          halves-shaped (λ i. add_planes (get_or x (i + 4) []) (get_or t i []))
          (λ i. add_planes (add_planes (get_or x i []) (get_or x (i + 4) [])) (get_or t (i + 4) [])) (λ i. refl) (λ i. refl);
      lanes = λ b hb. λ k. first 0 b k ∷ first 1 b k ∷ first 2 b k ∷ first 3 b k ∷ second 0 b k ∷ second 1 b k ∷ second 2 b k ∷ second 3 b k ∷ [];
    })
  where
    first : (i b : ℕ) → row_at (add_planes (get_or x (i + 4) []) (get_or t i [])) b
        ≡ bit_xor (bit_xor (bit_xor (row x i b) (row x (i + 4) b)) (row x i b)) (row t i b)
    first i b =
        added_row (get_or x (i + 4) []) (get_or t i []) b
        ∙ ap (λ (n : ℕ). bit_xor n (row t i b)) (sym (xor_between (row x i b) (row x (i + 4) b)))

    second : (i b : ℕ) → row_at (add_planes (add_planes (get_or x i []) (get_or x (i + 4) [])) (get_or t (i + 4) [])) b
        ≡ bit_xor (bit_xor (row x i b) (row x (i + 4) b)) (row t (i + 4) b)
    second i b =
        added_row (add_planes (get_or x i []) (get_or x (i + 4) [])) (get_or t (i + 4) []) b
        ∙ ap (λ (n : ℕ). bit_xor n (row t (i + 4) b)) (added_row (get_or x i []) (get_or x (i + 4) []) b)

-- each row of each state rotated
pub rotated_goes : {t y : List (List ℕ)} → y ≡ tab 8 (λ i. rotated_planes (get_or t i [])) → Goes (λ b. rotated) t y
unfolding rotated_planes rotated
rotated_goes {t} e =
    rw e
    (record {
      shape = tab-shaped (λ i. rotated_planes (get_or t i [])) (λ i h. refl);
      lanes = λ b hb.
          tab-lane (λ i. rotated_planes (get_or t i [])) b (λ i. rotated_row (get_or (lane t b) i 0))
          (λ i h. rotated_row_lem (get_or t i []) b ∙ ap rotated_row (sym (lane_row t b i h)));
    })
