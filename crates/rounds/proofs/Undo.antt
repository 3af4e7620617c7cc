-- Layers that undo each other on states, and what is made of them.
use mathlib.Core.Path.{◌≡◌, refl, ap, ◌∙◌}
use mathlib.Core.List.{List, [], ◌∷◌}
use Prim.Native.Nat.{ℕ, zero, suc, ◌+◌, ◌*◌, ◌^◌, ◌<◌}
use native.Mathlib.Omega.{arith}
use lib.Bits.{bit_xor, xor_lt}
use lib.Dec.{T}
use lib.ListN.{length, get_or, set, length-set}
use lib.Seq.{set-set, set-get_or, get_or-set_same}
use Rattle.bits.specs.Table.{tab}
use Rattle.bits.proofs.Bits.{xor_twice}
use Rattle.bits.proofs.Lists.{get_or_tab, tab_ext, tab_get_or}
use Rattle.state.specs.Rows.{Rows, add_rows}
use Rattle.sbox.specs.Sbox
use Rattle.lbox.specs.Lbox
use Rattle.state.proofs.Rows.{tab_rows}
use Rattle.sbox.proofs.Inverses as sboxes
use Rattle.lbox.proofs.Inverses as lboxes
use Rattle.rounds.specs.Cipher.{Parts, constant, add_constant, round, unround, step, unstep, steps, unsteps}

pub record Undo (f g : List ℕ → List ℕ) : Type 0 where
  pub keeps : (x : List ℕ) → Rows x → Rows (f x)
  pub kept : (y : List ℕ) → Rows y → Rows (g y)
  pub undone : (x : List ℕ) → Rows x → g (f x) ≡ x
  pub redone : (y : List ℕ) → Rows y → f (g y) ≡ y

-- one after the other, undone in the other order
pub then : {f g h k : List ℕ → List ℕ} → Undo f g → Undo h k → Undo (λ x. h (f x)) (λ y. g (k y))
then {f} {g} {h} {k} u v =
    record {
      keeps = λ x r. v.keeps (f x) (u.keeps x r);
      kept = λ y r. u.kept (k y) (v.kept y r);
      undone = λ x r. ap g (v.undone (f x) (u.keeps x r)) ∙ u.undone x r;
      redone = λ y r. ap h (u.redone (k y) (v.kept y r)) ∙ v.redone y r;
    }

pub id_undo : Undo (λ x. x) (λ y. y)
id_undo = record { keeps = λ x r. r; kept = λ y r. r; undone = λ x r. refl; redone = λ y r. refl }

pub add_rows_lem : (x k : List ℕ) → Rows x → Rows k → Rows (add_rows x k)
unfolding add_rows
add_rows_lem x k r s = tab_rows (λ i. bit_xor (get_or x i 0) (get_or k i 0)) (λ i. xor_lt 16 (get_or x i 0) (get_or k i 0) (r.words i) (s.words i))

add_twice : (x k : List ℕ) → Rows x → add_rows (add_rows x k) k ≡ x
unfolding add_rows
add_twice x k r =
    tab_ext 8 (λ i. bit_xor (get_or (tab 8 (λ i. bit_xor (get_or x i 0) (get_or k i 0))) i 0) (get_or k i 0)) (λ i. get_or x i 0)
    (λ i h. ap (λ (n : ℕ). bit_xor n (get_or k i 0)) (get_or_tab 8 (λ i. bit_xor (get_or x i 0) (get_or k i 0)) i h) ∙ xor_twice (get_or x i 0) (get_or k i 0))
    ∙ tab_get_or 8 x r.long

-- adding a state is undone by adding it
pub add_undo : (k : List ℕ) → Rows k → Undo (λ x. add_rows x k) (λ x. add_rows x k)
add_undo k s =
    record {
      keeps = λ x r. add_rows_lem x k r s;
      kept = λ x r. add_rows_lem x k r s;
      undone = λ x r. add_twice x k r;
      redone = λ x r. add_twice x k r;
    }

set_rows : (x : List ℕ) (v : ℕ) → Rows x → v < 2 ^ 16 → Rows (set x 0 v)
set_rows x v r h = record { long = length-set x 0 v ∙ r.long; words = words x r.words }
  where
    words : (x : List ℕ) → ((i : ℕ) → get_or x i 0 < 2 ^ 16) → (i : ℕ) → get_or (set x 0 v) i 0 < 2 ^ 16
    words [] w i = w i
    words (a ∷ x) w zero = h
    words (a ∷ x) w (suc i) = w (suc i)

pub constant_rows : (c : ℕ) → c < 2 ^ 16 → (x : List ℕ) → Rows x → Rows (add_constant c x)
unfolding add_constant
constant_rows c h x r = set_rows x (bit_xor (get_or x 0 0) c) r (xor_lt 16 (get_or x 0 0) c (r.words 0) h)

constant_twice : (c : ℕ) (x : List ℕ) → Rows x → add_constant c (add_constant c x) ≡ x
unfolding add_constant
constant_twice c x r =
    set-set x 0 (bit_xor (get_or x 0 0) c) (bit_xor (get_or (set x 0 (bit_xor (get_or x 0 0) c)) 0 0) c)
    ∙ ap (set x 0) (ap (λ (n : ℕ). bit_xor n c) (get_or-set_same x 0 (bit_xor (get_or x 0 0) c) 0 (rw r.long (omega arith))) ∙ xor_twice (get_or x 0 0) c)
    ∙ set-get_or x 0 0

pub constant_undo : (c : ℕ) → c < 2 ^ 16 → Undo (add_constant c) (add_constant c)
constant_undo c h =
    record {
      keeps = constant_rows c h;
      kept = constant_rows c h;
      undone = constant_twice c;
      redone = constant_twice c;
    }

pub constant_lt : (r : ℕ) → constant r < 2 ^ 16
unfolding constant
constant_lt r = omega arith

pub sbox_undo : (t u : List ℕ) → T (sboxes.back t u) → T (sboxes.back u t) → Undo (Sbox.layer t) (Sbox.layer u)
sbox_undo t u e f =
    record {
      keeps = λ x r. sboxes.sbox_rows t x;
      kept = λ y r. sboxes.sbox_rows u y;
      undone = sboxes.sbox_undone t u e;
      redone = sboxes.sbox_undone u t f;
    }

pub lbox_undo : (m n : List (List ℕ)) → length m ≡ 16 → length n ≡ 16
    → tab 16 (λ i. Lbox.times n (Lbox.times m (2 ^ i))) ≡ tab 16 (λ i. 2 ^ i)
    → tab 16 (λ i. Lbox.times m (Lbox.times n (2 ^ i))) ≡ tab 16 (λ i. 2 ^ i)
    → Undo (Lbox.layer m) (Lbox.layer n)
lbox_undo m n hm hn e f =
    record {
      keeps = λ x r. lboxes.lbox_rows m hm x;
      kept = λ y r. lboxes.lbox_rows n hn y;
      undone = lboxes.lbox_undone m n e;
      redone = lboxes.lbox_undone n m f;
    }

-- parts whose boxes undo each other
pub record Sound (p : Parts) : Type 0 where
  pub sboxes : Undo (Sbox.layer p.sbox) (Sbox.layer p.sbox_inverse)
  pub lboxes : Undo (Lbox.layer p.lbox) (Lbox.layer p.lbox_inverse)

module _ (p : Parts) (s : Sound p) where
  pub round_undo : (r : ℕ) → Undo (round p r) (unround p r)
  unfolding round unround
  round_undo r = then (then s.sboxes (constant_undo (constant r) (constant_lt r))) s.lboxes

  module _ (tk : ℕ → List ℕ) (states : (σ : ℕ) → Rows (tk σ)) where
    pub step_undo : (n : ℕ) → Undo (step p tk n) (unstep p tk n)
    unfolding step unstep
    step_undo n = then (then (round_undo (2 * n + 1)) (round_undo (2 * n + 2))) (add_undo (tk (n + 1)) (states (n + 1)))

    pub steps_undo : (m n : ℕ) → Undo (steps p tk m n) (unsteps p tk m n)
    unfolding steps unsteps
    steps_undo m zero = id_undo
    steps_undo m (suc n) = then (steps_undo m n) (step_undo (m + n))
