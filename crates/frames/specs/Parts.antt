-- What the code that puts units and closes asks for and hands on; no entry point's contract speaks of it.
use Rattle.std.specs.Prelude.{◌≡◌, true, List, ◌++◌, ℕ, ◌^◌, ◌≤◌, length, take, drop}
use Rattle.suites.specs.declared.suite.Suite.{Suite}
use Rattle.suites.specs.Suite.{listed}
use Rattle.fields.specs.Field.{field}
use Rattle.format.specs.Sealings.{Sealing, sealed_bytes, sealing_calls}

-- sealed bytes whose ciphertext has m: the ciphertext, and the tag as field 12
unfoldable pub tag_apart : ℕ → List ℕ → List ℕ
tag_apart m s = take m s ++ field 0x12 (drop m s)

-- a listed suite, a nonce of 12 bytes, a header and a text of m bytes below every limit
pub record Within (suite : Suite) (nonce header : List ℕ) (m : ℕ) : Type 0 where
  pub listed_suite : listed suite.cipher suite.steps ≡ true
  pub nonce_long : length nonce ≡ 12
  pub header_short : length header ≤ 2 ^ 24
  pub text_short : m ≤ 2 ^ 24

-- bytes of this length that were put at the start of an output, which became x, and the r cipher calls of their sealing
pub record Put (s : Sealing) (bytes : List ℕ) (n : ℕ) (out x : List ℕ) (r : ℕ) : Type 0 where
  pub calls : r ≡ length (sealing_calls s)
  pub is : x ≡ bytes ++ drop n out

-- the same where f makes those bytes of the sealed ones
abbrev pub PutSealed : Suite → List ℕ → Sealing → (List ℕ → List ℕ) → ℕ → List ℕ → List ℕ → ℕ → Type 0
PutSealed suite key s f = Put s (f (sealed_bytes suite key s))

-- a text sealed under a nonce, with a header
abbrev pub sealing_of : List ℕ → List ℕ → List ℕ → Sealing
sealing_of nonce header text = record { nonce = nonce; header = header; text = text }
