-- A few blocks behind those that are done, and what of a group that is filled up goes back into a slice.
use mathlib.Core.Path.{◌≡◌, ap, ◌∙◌}
use mathlib.Core.List.{List, ◌++◌, append-nil}
use Prim.Native.Nat.{ℕ, ◌+◌, ◌-◌, ◌*◌, ◌≤◌}
use native.Mathlib.Nat.{le_of_eq}
use native.Mathlib.Omega.{arith}
use lib.ListN.{length, take, drop, length-drop, drop_of_length-le}
use lib.Seq.{length-take-le}
use Rattle.bits.proofs.Lists.{part_rest}
use Rattle.blockwise.specs.Blocks.{each_of}
use Rattle.blockwise.proofs.Each.{Blockwise}
use Rattle.groups.specs.Group.{few_at}
use Rattle.groups.proofs.Few.{few_more, few_filled}

module _ (f : List ℕ → List ℕ → List ℕ) (k : Blockwise f) (t b : List ℕ) where
  -- n blocks are done, then j more: m in all
  pub few_behind : (n j : ℕ) {at m : ℕ} {x y : List ℕ} → at ≡ 16 * n → m ≡ n + j → 16 * m ≤ length t → 16 * m ≤ length b
      → x ≡ each_of f n t b → y ≡ few_at f j at t x → y ≡ each_of f m t b
  few_behind n j ea em ht hb ex ey = rw em (rw ea at ey ∙ few_more f k t b n j (omega arith) (omega arith) ex)

  -- s bytes are copied to the start of a group, and back from it
  pub put_back : (r at s : ℕ) → r ≤ 64 → at + 16 * r ≤ length t → at + 16 * r ≤ length b → s ≡ 16 * r
      → {t' b' y o : List ℕ} → length t' ≡ 1024 → length b' ≡ 1024 → length y ≡ 1024
      → (zt zb : List ℕ) → t' ≡ take s (drop at t) ++ zt → b' ≡ take s (drop at b) ++ zb → y ≡ few_at f 64 0 t' b'
      → o ≡ take (16 * r) y ++ drop (length (take (16 * r) y)) (take (length b - at) (drop at b))
      → take at b ++ (o ++ drop (length b - at) (drop at b)) ≡ few_at f r at t b
  put_back r at s hr ht hb es {t'} {b'} {y} {o} lt lb ly zt zb et eb ey eo =
      ap (λ (z : List ℕ). take at b ++ (o ++ z)) (drop_of_length-le (drop at b) {i = length b - at} (le_of_eq (length-drop at b)))
      ∙ ap (λ (z : List ℕ). take at b ++ z) (append-nil o ∙ eo ∙ (λ i. take (16 * r) y ++ drop (mine i) (part_rest at b i)))
      ∙ few_filled f k r at t b hr ht hb t' b' y lt lb zt zb (rw es at et) (rw es at eb) ey
    where
      mine : length (take (16 * r) y) ≡ 16 * r
      mine = length-take-le (16 * r) y (omega arith)
