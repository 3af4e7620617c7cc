-- Ciphertext and tag apart.
use mathlib.Core.Path.{◌≡◌, sym, ap, subst, ◌∙◌}
use mathlib.Core.List.{List, ◌++◌}
use Prim.Native.Nat.{ℕ, ◌+◌, ◌-◌}
use native.Mathlib.Omega.{arith}
use lib.ListN.{length, drop, length-append}
use lib.Seq.{take_at, drop_at}
use Rattle.bits.specs.Bytes.{same_bytes}
use Rattle.calls.specs.Sealing.{opening, opening_tag}
use Rattle.calls.proofs.ByBlocks.{opening_is}
use Rattle.suites.specs.declared.suite.Suite.{Suite}
use Rattle.limits.specs.Tests.{verify_tests}
use Rattle.text_blocks.specs.Under.{enciphers, deciphers}
use Rattle.sealing.specs.Passes.{Passable, text_of}
use Rattle.opening.specs.Open.{ciphertext, opened, agrees}
use Rattle.opening.proofs.Answers.{Ready}
use Rattle.verifying.proofs.Answers.{tests}

module _ (c tag : List ℕ) (whole : length tag ≡ 16) where
  text-end : length c ≡ length (c ++ tag) - 16
  text-end = omega (arith, length-append c tag)

  apart-ciphertext : ciphertext (c ++ tag) ≡ c
  apart-ciphertext = take_at c tag (length (c ++ tag) - 16) text-end

  apart-tag : drop (length (c ++ tag) - 16) (c ++ tag) ≡ tag
  apart-tag = drop_at c tag (length (c ++ tag) - 16) text-end

  pub apart_agrees : (s : Suite) (key nonce h made : List ℕ) → made ≡ opening_tag (enciphers s key) (deciphers s key) nonce h c
      → same_bytes 16 made tag ≡ agrees s.cipher s.steps key nonce h (c ++ tag)
  unfolding agrees
  apart_agrees s key nonce h made e =
      λ i. same_bytes 16 ((e ∙ ap (opening_tag (enciphers s key) (deciphers s key) nonce h) (sym apart-ciphertext)) i) (sym apart-tag i)

  pub apart_opened : (s : Suite) (key nonce h : List ℕ)
      → opened s.cipher s.steps key nonce h (c ++ tag) ≡ text_of s key nonce c
  unfolding opened
  apart_opened s key nonce h =
      ap (opening (enciphers s key) (deciphers s key) nonce h) apart-ciphertext ∙ opening_is (enciphers s key) (deciphers s key) nonce h c

module _ (s : Suite) (key nonce h c tag : List ℕ) (whole : length tag ≡ 16) where
  -- what was tested, of the two side by side
  pub apart_tests_lem : verify_tests s.cipher s.steps (length key) (length nonce) (length h) (length c + 16) ≡ tests s key nonce h (c ++ tag)
  apart_tests_lem = ap (verify_tests s.cipher s.steps (length key) (length nonce) (length h)) (omega (arith, length-append c tag))

  pub apart_passable : Ready s key nonce h (c ++ tag) → Passable s nonce h × Passable s nonce c
  apart_passable g = (g.header, subst (Passable s nonce) (apart-ciphertext c tag whole) g.text)
