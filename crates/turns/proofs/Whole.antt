-- All turns are the cipher, one way or the other.
use mathlib.Core.Path.{◌≡◌, refl, sym, ap, ◌∙◌}
use mathlib.Core.Bool.{Bool, true, false}
use mathlib.Core.List.{List}
use Prim.Native.Nat.{ℕ, zero, suc, ◌+◌, ◌-◌}
use native.Mathlib.Nat.{zero-add}
use native.Mathlib.Numerals.{add-one}
use native.Mathlib.Omega.{arith}
use Rattle.state.specs.Block.{rows, bytes}
use Rattle.state.specs.Rows.{add_rows}
use Rattle.rounds.specs.declared.Cipher.{Cipher}
use Rattle.rounds.specs.Cipher.{Parts, parts, step, unstep, steps, unsteps, tweakeys, encipher, decipher}
use Rattle.turns.specs.Turns.{ciphered, step_at, key_behind, two_rounds, turns}

module _ (p : Parts) (tk : ℕ → List ℕ) where
  ahead-turns : (n i : ℕ) (x : List ℕ) → turns true p tk n i x ≡ steps p tk 0 i (add_rows x (tk 0))
  unfolding turns two_rounds steps step
  ahead-turns n zero x = refl
  ahead-turns n (suc i) x =
      ap (λ (y : List ℕ). add_rows (two_rounds true p i y) (tk (i + 1))) (ahead-turns n i x)
      ∙ ap (λ (s : ℕ). step p tk s (steps p tk 0 i (add_rows x (tk 0)))) (sym (zero-add i))

  -- one turn back more, where k + 1 steps are left to be undone
  back-turn : (n k i : ℕ) (x y : List ℕ) → i + suc k ≡ n → turns false p tk n i x ≡ add_rows y (tk (suc k))
      → turns false p tk n (suc i) x ≡ add_rows (unstep p tk k y) (tk k)
  unfolding turns two_rounds unstep
  back-turn n k i x y h e =
      let s : n - suc i ≡ k = omega arith in
      let one : suc k ≡ k + 1 = omega arith in
      (λ j. add_rows (two_rounds false p (s j) (e j)) (tk (s j)))
      ∙ ap (λ (l : ℕ). add_rows (two_rounds false p k (add_rows y (tk l))) (tk k)) one

  -- where k steps are left to be undone, the other turns do so
  back-left : (n k i : ℕ) (x y : List ℕ) → i + k ≡ n → turns false p tk n i x ≡ add_rows y (tk k)
      → turns false p tk n n x ≡ add_rows (unsteps p tk 0 k y) (tk 0)
  unfolding unsteps
  back-left n zero i x y h e =
      let all : i ≡ n = omega arith in
      ap (λ (j : ℕ). turns false p tk n j x) (sym all) ∙ e
  back-left n (suc k) i x y h e =
      back-left n k (suc i) x (unstep p tk k y) (omega arith) (back-turn n k i x y h e)
      ∙ ap (λ (s : ℕ). add_rows (unsteps p tk 0 k (unstep p tk s y)) (tk 0)) (sym (zero-add k))

pub all_turns : (ahead : Bool) (c : Cipher) (n : ℕ) (key tweak b : List ℕ)
    → bytes (turns ahead (parts c) (tweakeys c key tweak) n n (rows b)) ≡ ciphered ahead c n key tweak b
unfolding encipher decipher turns
all_turns true c n key tweak b = ap bytes (ahead-turns (parts c) (tweakeys c key tweak) n n (rows b))
all_turns false c n key tweak b = ap bytes (back-left (parts c) (tweakeys c key tweak) n n 0 (rows b) (rows b) (omega arith) refl)

-- one turn more
pub turns_next : (ahead : Bool) (p : Parts) (tk : ℕ → List ℕ) (n i : ℕ) (x : List ℕ)
    → add_rows (two_rounds ahead p (step_at ahead n i) (turns ahead p tk n i x)) (tk (key_behind ahead (step_at ahead n i))) ≡ turns ahead p tk n (i + 1) x
unfolding turns
turns_next ahead p tk n i x = ap (λ (k : ℕ). turns ahead p tk n k x) (sym (add-one i))
