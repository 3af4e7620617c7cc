-- The ranges that are marked.
use mathlib.Core.Path.{◌≡◌, refl, sym, ap, ◌∙◌, fun_ext}
use mathlib.Core.Bool.{Bool, true, false}
use mathlib.Core.List.{List, [], ◌∷◌, ◌++◌}
use Prim.Native.Nat.{ℕ, ◌+◌, ◌/◌, ◌<◌}
use native.Mathlib.Decide.{ℕ_discrete}
use native.Mathlib.Omega.{arith}
use lib.ListN.{length, get_or, set, length-set}
use lib.Seq.{get_or-set_same, get_or-set_other}
use Rattle.trigrams.specs.Trigrams.{count}
use Rattle.trigrams.specs.Taken.{taken}
use Rattle.trigrams.proofs.Common.{count_more, put_other}
use Rattle.trigrams.proofs.Taken.{taken_nil, taken_none}
use Rattle.ranges.specs.Ranges.{within, shared_in, Marked}
use Rattle.ranges.proofs.Ranges.{within_same, within_other}

pub marked_none : (marks : List Bool) → length marks ≡ 4096 → Marked [] marks
unfolding count
marked_none marks l = record { long = l; none = λ v z. refl }

module _ {x : List ℕ} {marks : List Bool} (h : Marked x marks) where
  -- one number more, whose range is marked
  pub marked_more : (v : ℕ) → v / 4096 < 4096 → Marked (x ++ v ∷ []) (set marks (v / 4096) true)
  marked_more v l = record { long = length-set marks (v / 4096) true ∙ h.long; none = λ w z. at w z (ℕ_discrete (w / 4096) (v / 4096)) }
    where
      at : (w : ℕ) → get_or (set marks (v / 4096) true) (w / 4096) false ≡ false → Dec (w / 4096 ≡ v / 4096) → count w (x ++ v ∷ []) ≡ 0
      at w z (yes e) =
          let one : get_or (set marks (v / 4096) true) (v / 4096) false ≡ true =
          get_or-set_same marks (v / 4096) true false (omega (arith, h.long)) in
          let none = rw e at z in
          absurd cc
      at w z (no d) =
          count_more x v w ∙ put_other (λ u. count u x) v (count v x + 1) w (λ s. d (ap (λ u. u / 4096) s))
          ∙ h.none w (sym (get_or-set_other marks (v / 4096) (w / 4096) true false d) ∙ z)

  -- nothing is shared in a range that is not marked
  pub marked_out : (range : ℕ) → get_or marks range false ≡ false → (y : List ℕ) → shared_in range x y ≡ 0
  unfolding shared_in
  marked_out range z y = ap (λ m. taken m y) (fun_ext (λ v. at v (ℕ_discrete (v / 4096) range))) ∙ taken-zero y
    where
      at : (v : ℕ) → Dec (v / 4096 ≡ range) → within range (λ w. count w x) v ≡ 0
      at v (yes e) = within_same range (λ w. count w x) v e ∙ h.none v (rw e z)
      at v (no d) = within_other range (λ w. count w x) v d

      taken-zero : (l : List ℕ) → taken (λ v. 0) l ≡ 0
      taken-zero [] = taken_nil (λ v. 0)
      taken-zero (v ∷ l) = taken_none (λ v. 0) v l refl ∙ taken-zero l
