-- Both ways through a cipher in one definition each: steps, or these undone. No entry point's contract cites this file.
use Rattle.std.specs.Prelude.{Bool, true, false, List, ℕ}
use Rattle.rounds.specs.Cipher.{Parts, step, unstep, steps, unsteps}

abbrev pub step_by : Bool → Parts → (ℕ → List ℕ) → ℕ → List ℕ → List ℕ
step_by true = step
step_by false = unstep

abbrev pub steps_by : Bool → Parts → (ℕ → List ℕ) → ℕ → ℕ → List ℕ → List ℕ
steps_by true = steps
steps_by false = unsteps
