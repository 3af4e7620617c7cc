-- The ciphers under a suite that is listed, and blocks under the tweaks of their numbers; and what is added to a text's last block.
use Rattle.std.specs.Prelude.{◌≡◌, Bool, cond, List, ◌++◌, ℕ, ◌+◌, ◌-◌, ◌*◌, ◌/◌, ◌<◌, drop}
use Rattle.blockwise.specs.Blocks.{strung, block}
use Rattle.calls.specs.Calls.{length_block}
use Rattle.calls.specs.Tweak.{text_tweak, special_tweak, last_text_mark}
use Rattle.suites.specs.declared.suite.Suite.{Suite}
use Rattle.suites.specs.Suite.{cipher_of}
use Rattle.rounds.specs.Cipher.{encipher, decipher}

abbrev pub enciphers : Suite → List ℕ → List ℕ → List ℕ → List ℕ
enciphers s key = encipher (cipher_of s.cipher) s.steps key

abbrev pub deciphers : Suite → List ℕ → List ℕ → List ℕ → List ℕ
deciphers s key = decipher (cipher_of s.cipher) s.steps key

-- the one or the other
abbrev pub either : Bool → Suite → List ℕ → List ℕ → List ℕ → List ℕ
either ahead s key = cond ahead (enciphers s key) (deciphers s key)

-- block b of a text, by its number
abbrev pub numbered : Bool → Suite → List ℕ → List ℕ → ℕ → List ℕ → List ℕ
numbered ahead s key nonce number b = either ahead s key (text_tweak nonce number) b

-- the first k blocks of x, each by its number, from `first` on; the bytes behind them stay
abbrev pub first_blocks : Bool → Suite → List ℕ → List ℕ → ℕ → ℕ → List ℕ → List ℕ
first_blocks ahead s key nonce first k x = strung k (λ i. numbered ahead s key nonce (first + i) (block x i)) ++ drop (16 * k) x

-- how many bytes the last block of m has; 0 for an empty text
abbrev pub last_bytes : ℕ → ℕ
last_bytes m = m - 16 * ((m - 1) / 16)

-- what is added to that block
abbrev pub pad_of : Suite → List ℕ → List ℕ → ℕ → List ℕ
pad_of s key nonce m = enciphers s key (special_tweak nonce (last_text_mark m)) (length_block (last_bytes m))

-- the pad is right where n bytes from block `first` on of a text of m end with its last block
abbrev pub PadFor : Suite → List ℕ → List ℕ → ℕ → ℕ → ℕ → List ℕ → Type 0
PadFor s key nonce m first n pad = 0 < n → 16 * first + n ≡ m → pad ≡ pad_of s key nonce m
