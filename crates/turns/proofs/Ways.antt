-- What the code does one way or the other is the cipher's.
use mathlib.Core.Path.{◌≡◌, subst, fun_ext}
use mathlib.Core.Bool.{Bool, true, false}
use mathlib.Core.List.{List}
use Prim.Native.Nat.{ℕ, ◌+◌, ◌*◌}
use Rattle.blockwise.proofs.Each.{Blockwise}
use Rattle.rounds.specs.declared.Cipher.{Cipher}
use Rattle.rounds.specs.Cipher.{Parts, constant, round, unround}
use Rattle.runs.specs.Run.{block_by}
use Rattle.runs.proofs.Runs.{blockwise_by, encipher_run, decipher_run}
use Rattle.turns.specs.Turns.{ciphered, round_by, two_rounds}

-- the two rounds of a step, by the constants
module _ (p : Parts) (s : ℕ) (x : List ℕ) {ahead : Bool} {a b : ℕ} (first : a ≡ constant (2 * s + 1)) (second : b ≡ constant (2 * s + 2)) where
  pub two_ahead : ahead ≡ true → round_by ahead p b (round_by ahead p a x) ≡ two_rounds ahead p s x
  unfolding two_rounds round
  two_ahead e = rw e (λ i. round_by true p (second i) (round_by true p (first i) x))

  pub two_back : ahead ≡ false → round_by ahead p a (round_by ahead p b x) ≡ two_rounds ahead p s x
  unfolding two_rounds unround
  two_back e = rw e (λ i. round_by false p (first i) (round_by false p (second i) x))

-- a run of all steps is the cipher
pub ciphered_is : (ahead : Bool) (c : Cipher) (n : ℕ) (key : List ℕ) → block_by ahead c 0 n true key ≡ ciphered ahead c n key
ciphered_is true c n key = fun_ext (λ t. fun_ext (λ b. encipher_run c n key t b))
ciphered_is false c n key = fun_ext (λ t. fun_ext (λ b. decipher_run c n key t b))

-- sixteen bytes in, sixteen bytes out
pub ciphered_blockwise : (ahead : Bool) (c : Cipher) (n : ℕ) (key : List ℕ) → Blockwise (ciphered ahead c n key)
ciphered_blockwise ahead c n key = subst Blockwise (ciphered_is ahead c n key) (blockwise_by ahead c 0 n true key)
