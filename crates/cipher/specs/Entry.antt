-- What the entry points give under a suite.
use Rattle.std.specs.Prelude.{cond, List, ℕ}
use Rattle.rounds.specs.Cipher.{encipher, decipher}
use Rattle.blockwise.specs.Blocks.{each_block}
use Rattle.suites.specs.Suite.{listed, cipher_of}

-- one block; where the suite is not listed (refusal 1) it stays as it was
unfoldable pub enciphered : ℕ → ℕ → List ℕ → List ℕ → List ℕ → List ℕ
enciphered cipher n key tweak block = cond (listed cipher n) (encipher (cipher_of cipher) n key tweak block) block

unfoldable pub deciphered : ℕ → ℕ → List ℕ → List ℕ → List ℕ → List ℕ
deciphered cipher n key tweak block = cond (listed cipher n) (decipher (cipher_of cipher) n key tweak block) block

-- many blocks; likewise
unfoldable pub enciphered_blocks : ℕ → ℕ → List ℕ → List ℕ → List ℕ → List ℕ
enciphered_blocks cipher n key t b = cond (listed cipher n) (each_block (encipher (cipher_of cipher) n key) t b) b

unfoldable pub deciphered_blocks : ℕ → ℕ → List ℕ → List ℕ → List ℕ → List ℕ
deciphered_blocks cipher n key t b = cond (listed cipher n) (each_block (decipher (cipher_of cipher) n key) t b) b
