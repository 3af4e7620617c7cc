-- What `open` answers, and what it leaves in the output.
use Rattle.suites.specs.Answer.{Answer}
use Rattle.suites.specs.declared.refusal.Refusal.{Refusal}
use Rattle.std.specs.Prelude.{◌≡◌, Bool, List, [], ◌∷◌, ℕ, ◌-◌, ◌^◌, ◌≤◌, length, take, drop, Result, Ok, Err}
use Rattle.calls.specs.Sealing.{opening, opening_tag}
use Rattle.suites.specs.declared.refusal.Refusal.TheVariants.{TagDiffers}
use Rattle.suites.specs.declared.suite.Suite.{Suite}
use Rattle.suites.specs.Refusal.{number}
use Rattle.suites.specs.Suite.{cipher_of}
use Rattle.suites.specs.Told.{Told, gives, refuses}
use Rattle.limits.specs.Tests.{unless, open_tests}
use Rattle.bits.specs.Bytes.{same_bytes}
use Rattle.rounds.specs.Cipher.{encipher, decipher}
use Rattle.sealing.specs.Seal.{written}

-- "Sealed bytes are ciphertext, then tag."
abbrev pub ciphertext : List ℕ → List ℕ
ciphertext s = take (length s - 16) s

-- the text of sealed bytes
unfoldable pub opened : ℕ → ℕ → List ℕ → List ℕ → List ℕ → List ℕ → List ℕ
opened cipher steps key nonce header s =
    opening (encipher (cipher_of cipher) steps key) (decipher (cipher_of cipher) steps key) nonce header (ciphertext s)

-- whether the tag that belongs to that text is the one that stands there
unfoldable pub agrees : ℕ → ℕ → List ℕ → List ℕ → List ℕ → List ℕ → Bool
agrees cipher steps key nonce header s =
    same_bytes 16 (opening_tag (encipher (cipher_of cipher) steps key) (decipher (cipher_of cipher) steps key) nonce header (ciphertext s)) (drop (length s - 16) s)

-- the tag is looked at where no earlier refusal applies: "tag differs: 8"
abbrev pub then_tag : Answer → Bool → Answer
then_tag (Ok tt) ok = unless ok TagDiffers (Ok tt)
then_tag (Err why) ok = Err why

-- the answer where nothing but the tag is left to look at
abbrev pub by_tag : Suite → List ℕ → List ℕ → List ℕ → List ℕ → Answer
by_tag s key nonce header x = then_tag (Ok tt) (agrees s.cipher s.steps key nonce header x)

-- what the code asks for behind the tests 1 to 7, beside what a `Context` says of suite, nonce and header
pub record Tested (x out : List ℕ) : Type 0 where
  pub small : length (ciphertext x) ≤ 2 ^ 24
  pub long : 16 ≤ length x
  pub room : length x - 16 ≤ length out

-- and what it then answers, and leaves in the output
pub record Compared (s : Suite) (key nonce header x out : List ℕ) (r : Answer) (left : List ℕ) : Type 0 where
  pub answer : r ≡ by_tag s key nonce header x
  pub output : left ≡ written (by_tag s key nonce header x) (opened s.cipher s.steps key nonce header x) out

-- "Open: 1 to 8."
unfoldable pub open_outcome : ℕ → ℕ → List ℕ → List ℕ → List ℕ → List ℕ → List ℕ → Answer
open_outcome cipher steps key nonce header s out =
    then_tag (open_tests cipher steps (length key) (length nonce) (length header) (length s) (length out)) (agrees cipher steps key nonce header s)

-- the length of the text, or the refusal
abbrev pub OpenAnswer : Type 0
OpenAnswer = Result ℕ Refusal

-- "open its length"
abbrev pub open_report : Answer → ℕ → OpenAnswer
open_report (Ok tt) len = Ok len
open_report (Err why) len = Err why

abbrev pub open_told : OpenAnswer → Told
open_told (Ok len) = gives (len ∷ [])
open_told (Err why) = refuses (number why)

unfoldable pub open_answer : ℕ → ℕ → List ℕ → List ℕ → List ℕ → List ℕ → List ℕ → OpenAnswer
open_answer cipher steps key nonce header s out = open_report (open_outcome cipher steps key nonce header s out) (length s - 16)

unfoldable pub open_buffer : ℕ → ℕ → List ℕ → List ℕ → List ℕ → List ℕ → List ℕ → List ℕ
open_buffer cipher steps key nonce header s out = written (open_outcome cipher steps key nonce header s out) (opened cipher steps key nonce header s) out
