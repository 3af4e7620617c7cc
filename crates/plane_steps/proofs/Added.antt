-- The turns that a tweakey ends.
use mathlib.Core.Path.{◌≡◌, ap, ◌∙◌}
use mathlib.Core.Bool.{Bool}
use mathlib.Core.List.{List}
use Prim.Native.Nat.{ℕ, ◌+◌}
use Rattle.rounds.specs.declared.Cipher.{Cipher}
use Rattle.rounds.specs.Cipher.{parts}
use Rattle.state.specs.Rows.{add_rows}
use Rattle.planes.specs.Planes.{Goes}
use Rattle.planes.proofs.Goes.{goes_then, goes_as}
use Rattle.turns.specs.Turns.{key_before, key_behind, step_at, two_rounds, turns}
use Rattle.turns.proofs.Whole.{turns_next}
use Rattle.plane_steps.specs.Picked.{tweakeys_of}

module _ (ahead : Bool) (k : Cipher) (n : ℕ) (t : List (List (List ℕ))) {x y : List (List ℕ)} {σ : ℕ} where
  -- no turn yet
  pub turns_none : σ ≡ key_before ahead n → Goes (λ b w. add_rows w (tweakeys_of k t b σ)) x y
      → Goes (λ b. turns ahead (parts k) (tweakeys_of k t b) n 0) x y
  unfolding turns
  turns_none e p = goes_as p (λ b l w. ap (λ (s : ℕ). add_rows w (tweakeys_of k t b s)) e)

  -- one turn more
  pub turns_more : (i : ℕ) {s : ℕ} {z o : List (List ℕ)} → s ≡ step_at ahead n i → σ ≡ key_behind ahead s
      → Goes (λ b. turns ahead (parts k) (tweakeys_of k t b) n i) x y → Goes (λ b. two_rounds ahead (parts k) s) y z
      → Goes (λ b w. add_rows w (tweakeys_of k t b σ)) z o
      → Goes (λ b. turns ahead (parts k) (tweakeys_of k t b) n (i + 1)) x o
  turns_more i e f p q r =
      goes_as (goes_then (goes_then p q) r)
      (λ b l w.
      (λ j. add_rows (two_rounds ahead (parts k) (e j) (turns ahead (parts k) (tweakeys_of k t b) n i w))
      (tweakeys_of k t b ((f ∙ ap (key_behind ahead) e) j)))
      ∙ turns_next ahead (parts k) (tweakeys_of k t b) n i w)
