-- What the code's passes over a ciphertext ask for and leave; no entry point's contract speaks of it.
use Rattle.std.specs.Prelude.{List, ◌++◌, ℕ, ◌*◌, ◌^◌, ◌≤◌, min, length, take, drop}
use Rattle.calls.specs.Calls.{filled, sum_of}
use Rattle.calls.specs.Pieces.{piece, through}
use Rattle.suites.specs.declared.suite.Suite.{Suite}
use Rattle.text_blocks.specs.Text.{Usable}
use Rattle.text_blocks.specs.Under.{enciphers, deciphers}
use Rattle.blockwise.specs.Blocks.{block}

-- the text of the ciphertext c
abbrev pub text_of : Suite → List ℕ → List ℕ → List ℕ → List ℕ
text_of s key nonce c = through (deciphers s key) (enciphers s key) nonce (length c) 0 c

-- of n of its bytes, from block `first` on
abbrev pub text_part : Suite → List ℕ → List ℕ → List ℕ → ℕ → ℕ → List ℕ
text_part s key nonce c first n = through (deciphers s key) (enciphers s key) nonce (length c) first (take n (drop (16 * first) c))

-- the start of the text of c in a buffer, as far as either goes; the other bytes stay
abbrev pub text_in : Suite → List ℕ → List ℕ → List ℕ → List ℕ → List ℕ
text_in s key nonce c work = text_part s key nonce c 0 (min (length c) (length work)) ++ drop (min (length c) (length work)) work

-- the sum of the first n blocks of the text of c, the last zero-filled
unfoldable pub text_sum : Suite → List ℕ → List ℕ → List ℕ → ℕ → List ℕ
text_sum s key nonce c n = sum_of n (λ i. filled 0x00 (piece (deciphers s key) (enciphers s key) nonce (length c) i (block c i)))

-- a listed suite, a nonce of at most 15 bytes, and a string of at most 2^24
pub record Passable (s : Suite) (nonce c : List ℕ) : Type 0 where
  pub usable : Usable s nonce
  pub small : length c ≤ 2 ^ 24
