-- The tweakeys of 64 tweaks under one key, of both ciphers.
use mathlib.Core.Path.{◌≡◌, sym, ap, ◌∙◌}
use mathlib.Core.Bool.{cond}
use mathlib.Core.List.{List}
use Prim.Native.Nat.{ℕ, ◌%◌, ◌<◌}
use native.Mathlib.Omega.{arith}
use lib.Dec.{eqb}
use Rattle.planes.specs.Planes.{lane, Goes}
use Rattle.planes.proofs.Goes.{goes_as}
use Rattle.state.specs.Rows.{add_rows}
use Rattle.rounds.specs.Tweakey.{φs, rotated, scream_tweakey, iscream_tweakey}
use Rattle.plane_tweakeys.proofs.Ways.{rows_comm}

module _ (key : List (List ℕ)) (s : ℕ) {t z : List (List ℕ)} where
  pub scream_goes : (n : ℕ) → s ≡ n → n < 3 → Goes (λ b w. add_rows (φs n w) (lane key b)) t z → Goes (λ b w. scream_tweakey (lane key b) w s) t z
  unfolding scream_tweakey
  scream_goes n e h p =
      let m : n ≡ s % 3 = omega arith in
      goes_as p (λ b l w. rows_comm (φs n w) (lane key b) ∙ ap (λ (i : ℕ). add_rows (lane key b) (φs i w)) m)

  pub even_goes : s % 2 ≡ 0 → Goes (λ b w. add_rows w (lane key b)) t z → Goes (λ b w. iscream_tweakey (lane key b) w s) t z
  unfolding iscream_tweakey
  even_goes e p =
      goes_as p
      (λ b l w. rows_comm w (lane key b) ∙ ap (λ (n : ℕ). cond (eqb n 0) (add_rows (lane key b) w) (rotated w)) (sym e))

  pub odd_goes : (s % 2 ≡ 0 → ⊥) → Goes (λ b. rotated) t z → Goes (λ b w. iscream_tweakey (lane key b) w s) t z
  unfolding iscream_tweakey
  odd_goes d p =
      let e : 1 ≡ s % 2 = omega arith in
      goes_as p (λ b l w. ap (λ (n : ℕ). cond (eqb n 0) (add_rows (lane key b) w) (rotated w)) e)
