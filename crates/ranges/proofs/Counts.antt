-- The table of one range, as numbers are counted in it and taken away.
use mathlib.Core.Path.{◌≡◌, refl, sym, ap, subst, ◌∙◌, fun_ext}
use mathlib.Core.List.{List, [], ◌∷◌, ◌++◌}
use Prim.Native.Nat.{ℕ, suc, ◌+◌, ◌-◌, ◌/◌, ◌%◌, ◌≤◌, ◌<◌}
use native.Mathlib.Decide.{ℕ_discrete}
use native.Mathlib.Omega.{arith}
use borrow.Author.Tests.{eq-eqb, ne_eqb}
use lib.ListN.{length, get_or, set, replicate, length-set, length-replicate, get_or-replicate}
use lib.Seq.{get_or-set_same, get_or-set_other}
use Rattle.trigrams.specs.Trigrams.{count}
use Rattle.trigrams.specs.Taken.{put, taken}
use Rattle.trigrams.proofs.Common.{count_le, count_more, put_same, put_other}
use Rattle.trigrams.proofs.Taken.{taken_none, taken_some}
use Rattle.ranges.specs.Ranges.{within, held, Counted}
use Rattle.ranges.proofs.Ranges.{within_same, within_other}

pub counted_none : (range : ℕ) → Counted range [] (replicate 4096 0)
unfolding count
counted_none range = record { long = length-replicate {A = ℕ} 4096 0; counts = λ v e. get_or-replicate {A = ℕ} 4096 (v % 4096) 0 0 (omega arith) }

module _ {range : ℕ} {x table : List ℕ} (h : Counted range x table) where
  -- a number of the range is counted once more, at its place
  pub counted_more : (v : ℕ) → v / 4096 ≡ range → Counted range (x ++ v ∷ []) (set table (v % 4096) (get_or table (v % 4096) 0 + 1))
  counted_more v e = record { long = length-set table (v % 4096) (get_or table (v % 4096) 0 + 1) ∙ h.long; counts = λ w q. at w q (ℕ_discrete w v) }
    where
      at : (w : ℕ) → w / 4096 ≡ range → Dec (w ≡ v)
          → get_or (set table (v % 4096) (get_or table (v % 4096) 0 + 1)) (w % 4096) 0 ≡ count w (x ++ v ∷ [])
      at w q (yes s) =
          rw s
          (get_or-set_same table (v % 4096) (get_or table (v % 4096) 0 + 1) 0 (omega (arith, h.long)) ∙ ap (λ n. n + 1) (h.counts v e)
          ∙ sym (count_more x v v ∙ put_same (λ z. count z x) v (count v x + 1)))
      at w q (no d) =
          get_or-set_other table (v % 4096) (w % 4096) (get_or table (v % 4096) 0 + 1) 0 (omega arith) ∙ h.counts w q
          ∙ sym (count_more x v w ∙ put_other (λ z. count z x) v (count v x + 1) w d)

  -- another number changes nothing
  pub counted_other : (v : ℕ) → (v / 4096 ≡ range → ⊥) → Counted range (x ++ v ∷ []) table
  counted_other v d =
      record {
        long = h.long;
        counts =
            λ w q.
            h.counts w q ∙ sym (count_more x v w ∙ put_other (λ z. count z x) v (count v x + 1) w (λ s. d (ap (λ z. z / 4096) (sym s) ∙ q)));
      }

  -- no count is more than all
  pub counted_le : (v : ℕ) → v / 4096 ≡ range → get_or table (v % 4096) 0 ≤ length x
  counted_le v e = rw (h.counts v e) (count_le v x)

  pub counted_held : held range table ≡ within range (λ v. count v x)
  counted_held = fun_ext (λ v. at v (ℕ_discrete (v / 4096) range))
    where
      at : (v : ℕ) → Dec (v / 4096 ≡ range) → held range table v ≡ within range (λ w. count w x) v
      at v (yes e) = rw (eq-eqb (v / 4096) range e) (h.counts v e)
      at v (no d) = rw (ne_eqb (v / 4096) range d)

-- another number at v's place
pub held_set : (table : List ℕ) (v n : ℕ) → length table ≡ 4096
    → held (v / 4096) (set table (v % 4096) n) ≡ put (held (v / 4096) table) v n
held_set table v n l = fun_ext (λ w. at w (ℕ_discrete w v) (ℕ_discrete (w / 4096) (v / 4096)))
  where
    at : (w : ℕ) → Dec (w ≡ v) → Dec (w / 4096 ≡ v / 4096) → held (v / 4096) (set table (v % 4096) n) w ≡ put (held (v / 4096) table) v n w
    at w (yes e) q =
        rw (e, eq-eqb v v refl, eq-eqb (v / 4096) (v / 4096) refl) (get_or-set_same table (v % 4096) n 0 (omega (arith, l)))
    at w (no d) (yes q) =
        rw (ne_eqb w v d, eq-eqb (w / 4096) (v / 4096) q) (get_or-set_other table (v % 4096) (w % 4096) n 0 (omega arith))
    at w (no d) (no q) = rw (ne_eqb w v d, ne_eqb (w / 4096) (v / 4096) q)

module _ (range : ℕ) (table : List ℕ) (v : ℕ) (y : List ℕ) where
  -- a number of another range is not taken
  pub take_other : (v / 4096 ≡ range → ⊥) → taken (held range table) (v ∷ y) ≡ taken (held range table) y
  take_other d = taken_none (held range table) v y (within_other range (λ w. get_or table (w % 4096) 0) v d)

  -- nor is one that is not counted
  pub take_none : v / 4096 ≡ range → get_or table (v % 4096) 0 ≡ 0 → taken (held range table) (v ∷ y) ≡ taken (held range table) y
  take_none e z = taken_none (held range table) v y (within_same range (λ w. get_or table (w % 4096) 0) v e ∙ z)

  -- one that is counted is taken away
  pub take_one_lem : length table ≡ 4096 → v / 4096 ≡ range → 0 < get_or table (v % 4096) 0
      → taken (held range table) (v ∷ y) ≡ suc (taken (held range (set table (v % 4096) (get_or table (v % 4096) 0 - 1))) y)
  take_one_lem l e p =
      let own : held range table v ≡ get_or table (v % 4096) 0 = within_same range (λ w. get_or table (w % 4096) 0) v e in
      taken_some (held range table) v y (omega arith)
      ∙ ap (λ n. suc (taken (put (held range table) v (n - 1)) y)) own
      ∙ ap (λ k. suc (taken k y))
      (sym (subst (λ r. held r (set table (v % 4096) (get_or table (v % 4096) 0 - 1)) ≡ put (held r table) v (get_or table (v % 4096) 0 - 1)) e
      (held_set table v (get_or table (v % 4096) 0 - 1) l)))
