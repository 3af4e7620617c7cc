-- What opening tells of sealed bytes of a book.
use mathlib.Core.Path.{◌≡◌, refl, sym, ap, ◌∙◌}
use mathlib.Core.Bool.{Bool, true}
use mathlib.Core.List.{List, [], ◌∷◌}
use Prim.Native.Nat.{ℕ, ◌+◌, ◌≤◌}
use native.Mathlib.Omega.{arith}
use lib.ListN.{length}
use Rattle.bits.specs.Bytes.{Bytes}
use Rattle.suites.specs.declared.suite.Suite.{Suite}
use Rattle.sealing.specs.Seal.{sealed}
use Rattle.opening.specs.Demand2.{Context}
use Rattle.opening.specs.Open.{opened, agrees}
use Rattle.opening.proofs.Demand2.{image_long, image_agrees, agrees_image}
use Rattle.format.specs.Sealings.{nonce_of}
use Rattle.format.proofs.Lengths.{length_nonce_of}
use Rattle.format.proofs.One.{bytes_nonce_of}

-- with a header h under the nonce of number n

module _ (suite : Suite) (key : List ℕ) (number n : ℕ) (h : List ℕ) where
  -- the sealed bytes of a text; of sealed bytes, their text, and whether their tag agrees
  abbrev pub sealed_at : List ℕ → List ℕ
  sealed_at t = sealed suite.cipher suite.steps key (nonce_of number n) h t

  abbrev pub opened_at : List ℕ → List ℕ
  opened_at x = opened suite.cipher suite.steps key (nonce_of number n) h x

  abbrev pub agrees_at : List ℕ → Bool
  agrees_at x = agrees suite.cipher suite.steps key (nonce_of number n) h x

  module _ (long : length key ≡ 16) (key_bytes : Bytes key) where
    context : Context
    context = record { cipher = suite.cipher; steps = suite.steps; key = key; nonce = nonce_of number n; header = h }

    short : length (nonce_of number n) ≤ 15
    short = omega (arith, length_nonce_of number n)

    -- sealed bytes whose tag agrees were sealed, and their text has as many bytes as their ciphertext
    pub text_told : (x : List ℕ) (m : ℕ) → Bytes x → length x ≡ m + 16 → agrees_at x ≡ true
        → Bytes (opened_at x) × (sealed_at (opened_at x) ≡ x) × (length (opened_at x) ≡ m)
    unfolding context
    text_told x m b l ok =
        let o = agrees_image context key_bytes (bytes_nonce_of number n) x long short (opened_at x) (omega arith) b ok refl in
        let same : length x ≡ length (opened_at x) + 16 = ap length (sym o.1) ∙ image_long context key_bytes (bytes_nonce_of number n) short (opened_at x) in
        (o.0, o.1, omega arith)

    -- the tag of what was sealed agrees, and its text is the one that was sealed
    pub text_here : (t : List ℕ) → Bytes t → (agrees_at (sealed_at t) ≡ true) × (opened_at (sealed_at t) ≡ t)
    unfolding context
    text_here t b = image_agrees context key_bytes (bytes_nonce_of number n) (sealed_at t) long short t b refl

pub none_left : (s : List ℕ) → length s ≡ 0 → s ≡ []
none_left [] e = refl
none_left (a ∷ s) e = absurd (omega arith)
