-- What `seal` answers, and what it leaves in the output.
use Rattle.suites.specs.Answer.{Answer}
use Rattle.suites.specs.declared.refusal.Refusal.{Refusal}
use Rattle.sealing.specs.declared.seal.Sealed.{Sealed}
use Rattle.std.specs.Prelude.{List, [], ◌∷◌, ◌++◌, ℕ, ◌+◌, length, take, drop, Result, Ok, Err}
use Rattle.calls.specs.Calls.{calls}
use Rattle.calls.specs.Sealing.{sealing}
use Rattle.suites.specs.Refusal.{number}
use Rattle.suites.specs.Suite.{cipher_of}
use Rattle.suites.specs.Told.{Told, gives, refuses}
use Rattle.limits.specs.Tests.{seal_tests}
use Rattle.rounds.specs.Cipher.{encipher}

-- the sealed bytes of a text, ciphertext and tag, under a suite, a key, a nonce and a header
unfoldable pub sealed : ℕ → ℕ → List ℕ → List ℕ → List ℕ → List ℕ → List ℕ
sealed cipher steps key nonce header text =
    sealing (encipher (cipher_of cipher) steps key) nonce header text

-- "Seal and open write only that result at the output's start"; "left as it was: output"
abbrev pub written : Answer → List ℕ → List ℕ → List ℕ
written (Ok tt) result out = result ++ drop (length result) out
written (Err why) result out = out

-- the length of the sealed bytes and the number of cipher calls, or the refusal
abbrev pub SealAnswer : Type 0
SealAnswer = Result Sealed Refusal

abbrev pub made_sealed : ℕ → ℕ → SealAnswer
made_sealed len count = Ok (record { len = len; calls = count })

-- "seal returns its length and call count"
abbrev pub seal_report : Answer → ℕ → ℕ → SealAnswer
seal_report (Ok tt) len count = made_sealed len count
seal_report (Err why) len count = Err why

abbrev pub seal_told : SealAnswer → Told
seal_told (Ok s) = gives (s.len ∷ s.calls ∷ [])
seal_told (Err why) = refuses (number why)

-- "Seal: 1, 2, 3, 4, 6, 7."
unfoldable pub seal_outcome : ℕ → ℕ → List ℕ → List ℕ → List ℕ → List ℕ → List ℕ → Answer
seal_outcome cipher steps key nonce header text out = seal_tests cipher steps (length key) (length nonce) (length header) (length text) (length out)

unfoldable pub seal_answer : ℕ → ℕ → List ℕ → List ℕ → List ℕ → List ℕ → List ℕ → SealAnswer
seal_answer cipher steps key nonce header text out =
    seal_report (seal_outcome cipher steps key nonce header text out) (length text + 16) (length (calls nonce header text))

unfoldable pub seal_buffer : ℕ → ℕ → List ℕ → List ℕ → List ℕ → List ℕ → List ℕ → List ℕ
seal_buffer cipher steps key nonce header text out =
    written (seal_outcome cipher steps key nonce header text out) (sealed cipher steps key nonce header text) out

-- The same of a text that stands at the output's start already, its first m bytes: it is sealed in its place.
unfoldable pub in_place_outcome : ℕ → ℕ → List ℕ → List ℕ → List ℕ → ℕ → List ℕ → Answer
in_place_outcome cipher steps key nonce header m out = seal_tests cipher steps (length key) (length nonce) (length header) m (length out)

unfoldable pub in_place_answer : ℕ → ℕ → List ℕ → List ℕ → List ℕ → ℕ → List ℕ → SealAnswer
in_place_answer cipher steps key nonce header m out =
    seal_report (in_place_outcome cipher steps key nonce header m out) (m + 16) (length (calls nonce header (take m out)))

unfoldable pub in_place_buffer : ℕ → ℕ → List ℕ → List ℕ → List ℕ → ℕ → List ℕ → List ℕ
in_place_buffer cipher steps key nonce header m out =
    written (in_place_outcome cipher steps key nonce header m out) (sealed cipher steps key nonce header (take m out)) out
