-- The L-box layer takes states to states, and is undone by its inverse.
use mathlib.Core.Path.{◌≡◌, refl, ap, ◌∙◌}
use mathlib.Core.List.{List}
use Prim.Native.Nat.{ℕ, ◌^◌}
use lib.ListN.{length, get_or}
use Rattle.bits.specs.Table.{tab}
use Rattle.bits.proofs.Lists.{get_or_tab, tab_ext, tab_get_or}
use Rattle.state.specs.Rows.{Rows}
use Rattle.state.proofs.Rows.{tab_rows}
use Rattle.lbox.specs.Lbox
use Rattle.lbox.proofs.Matrix.{times_lt, undone}

pub lbox_rows : (m : List (List ℕ)) → length m ≡ 16 → (w : List ℕ) → Rows (Lbox.layer m w)
unfolding Lbox.layer
lbox_rows m e w = tab_rows (λ i. Lbox.times m (get_or w i 0)) (λ i. rw e at (times_lt m (get_or w i 0)))

pub lbox_undone : (m n : List (List ℕ)) → tab 16 (λ i. Lbox.times n (Lbox.times m (2 ^ i))) ≡ tab 16 (λ i. 2 ^ i)
    → (w : List ℕ) → Rows w → Lbox.layer n (Lbox.layer m w) ≡ w
unfolding Lbox.layer
lbox_undone m n e w r =
    tab_ext 8 (λ i. Lbox.times n (get_or (tab 8 (λ i. Lbox.times m (get_or w i 0))) i 0)) (λ i. get_or w i 0)
    (λ i hi. ap (Lbox.times n) (get_or_tab 8 (λ i. Lbox.times m (get_or w i 0)) i hi) ∙ undone m n e (get_or w i 0) (r.words i))
    ∙ tab_get_or 8 w r.long

-- The L-boxes of both ciphers: each pair is tested by computing, at each single bit.
pub scream_lbox_back : tab 16 (λ i. Lbox.times Lbox.scream_inverse (Lbox.times Lbox.scream (2 ^ i))) ≡ tab 16 (λ i. 2 ^ i)
unfolding Lbox.scream Lbox.scream_inverse Lbox.times Lbox.dot
scream_lbox_back = refl

pub scream_lbox_forth : tab 16 (λ i. Lbox.times Lbox.scream (Lbox.times Lbox.scream_inverse (2 ^ i))) ≡ tab 16 (λ i. 2 ^ i)
unfolding Lbox.scream Lbox.scream_inverse Lbox.times Lbox.dot
scream_lbox_forth = refl

pub iscream_lbox_back : tab 16 (λ i. Lbox.times Lbox.iscream (Lbox.times Lbox.iscream (2 ^ i))) ≡ tab 16 (λ i. 2 ^ i)
unfolding Lbox.iscream Lbox.times Lbox.dot
iscream_lbox_back = refl
