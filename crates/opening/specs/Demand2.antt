-- Demand 2, as a statement over the definitions in the contracts of `seal` and `open`; proofs/Demand2 proves it. "Sealing gives
-- exactly the ciphertext and tag of the CAESAR version 1 definition with [the scope's] rules. Opening, where refusals 1 to 7 don't
-- apply, accepts exactly when the sealed bytes are the image of some text under that suite, key, nonce and header, and gives that
-- one text." What the definition of sealing is, crates/calls/specs say.
use Rattle.std.specs.Prelude.{◌≡◌, ◌↔◌, ◌⊎◌, List, [], ◌∷◌, ◌++◌, ℕ, ◌+◌, ◌≤◌, ◌<◌, length, drop}
use Rattle.bits.specs.Bytes.{Bytes}
use Rattle.calls.specs.Calls.{calls}
use Rattle.suites.specs.Told.{Told, gives, refuses}
use Rattle.limits.specs.Due.{seal_due, open_due}
use Rattle.sealing.specs.Seal.{sealed, seal_answer, seal_buffer, seal_told}
use Rattle.opening.specs.Open.{open_answer, open_buffer, open_told}

-- a suite, a key, a nonce and a header
pub record Context : Type 0 where
  pub cipher : ℕ
  pub steps : ℕ
  pub key : List ℕ
  pub nonce : List ℕ
  pub header : List ℕ

-- the sealed bytes of a text
abbrev pub image : Context → List ℕ → List ℕ
image u t = sealed u.cipher u.steps u.key u.nonce u.header t

-- what sealing a text t into an output tells, and what it leaves there
abbrev pub seal_tells : Context → List ℕ → List ℕ → Told
seal_tells u t out = seal_told (seal_answer u.cipher u.steps u.key u.nonce u.header t out)

abbrev pub seal_leaves : Context → List ℕ → List ℕ → List ℕ
seal_leaves u t out = seal_buffer u.cipher u.steps u.key u.nonce u.header t out

-- what opening sealed bytes s into an output tells, and what it leaves there
abbrev pub open_tells : Context → List ℕ → List ℕ → Told
open_tells u s out = open_told (open_answer u.cipher u.steps u.key u.nonce u.header s out)

abbrev pub open_leaves : Context → List ℕ → List ℕ → List ℕ
open_leaves u s out = open_buffer u.cipher u.steps u.key u.nonce u.header s out

-- the first refusal that is due by lengths, by number: "Seal: 1, 2, 3, 4, 6, 7", and of "Open: 1 to 8" 1 to 7
abbrev pub seal_cause : Context → List ℕ → List ℕ → Told
seal_cause u t out = seal_due u.cipher u.steps (length u.key) (length u.nonce) (length u.header) (length t) (length out)

abbrev pub open_cause : Context → List ℕ → List ℕ → Told
open_cause u s out = open_due u.cipher u.steps (length u.key) (length u.nonce) (length u.header) (length s) (length out)

-- none is due for sealing
abbrev pub Sealable : Context → List ℕ → List ℕ → Type 0
Sealable u t out = (seal_cause u t out).number ≡ 0

-- "where refusals 1 to 7 don't apply"
abbrev pub Openable : Context → List ℕ → List ℕ → Type 0
Openable u s out = (open_cause u s out).number ≡ 0

-- a call tells so, and of an output it leaves so
pub record Does (tells : Told) (left : List ℕ) (due : Told) (result : List ℕ) : Type 0 where
  pub answer : tells ≡ due
  pub output : left ≡ result

-- opening accepts the text t: it returns its length, and leaves it at the output's start
abbrev pub Accepts : Context → List ℕ → List ℕ → List ℕ → Type 0
Accepts u s out t = Does (open_tells u s out) (open_leaves u s out) (gives (length t ∷ [])) (t ++ drop (length t) out)

-- opening refuses with 8, and leaves the output as it was
abbrev pub Differs : Context → List ℕ → List ℕ → Type 0
Differs u s out = Does (open_tells u s out) (open_leaves u s out) (refuses 8) out

pub record Holds (u : Context) : Type 0 where
  -- a refusal that is due is given, the first one, and the output is left as it was
  pub unsealed : (t out : List ℕ) (n : ℕ) → 0 < n → seal_cause u t out ≡ refuses n → Does (seal_tells u t out) (seal_leaves u t out) (refuses n) out
  pub unopened : (s out : List ℕ) (n : ℕ) → 0 < n → open_cause u s out ≡ refuses n → Does (open_tells u s out) (open_leaves u s out) (refuses n) out
  -- sealing leaves the image of the text at the output's start; it returns its length, and the call list's
  pub made : (t out : List ℕ) → Sealable u t out
      → Does (seal_tells u t out) (seal_leaves u t out)
      (gives ((length t + 16) ∷ length (calls u.nonce u.header t) ∷ [])) (image u t ++ drop (length t + 16) out)
  -- opening accepts a text, or refuses with 8: there is no third answer
  pub answered : (s out : List ℕ) → Openable u s out → ((t : List ℕ) × Accepts u s out t) ⊎ Differs u s out
  -- it accepts a text if and only if sealing that text gives those sealed bytes
  pub exact : (s out t : List ℕ) → Bytes s → Openable u s out → Accepts u s out t ↔ (Bytes t × (image u t ≡ s))
  -- at most one text does
  pub one : (s out t₁ t₂ : List ℕ) → Openable u s out → Bytes t₁ → Bytes t₂ → image u t₁ ≡ s → image u t₂ ≡ s → t₁ ≡ t₂
  -- open after seal gives the text back
  pub back : (t out room : List ℕ) → Bytes t → Sealable u t out → length t ≤ length room → Accepts u (image u t) room t

-- for every suite, listed or not, every header, and every key and nonce of bytes
abbrev pub Demand2 : Type 0
Demand2 = (u : Context) → Bytes u.key → Bytes u.nonce → Holds u
