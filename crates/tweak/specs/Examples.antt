-- The last numbers within the limits, and numbers past two bytes: their tweaks, written by hand; and the law, applied.
use Rattle.std.specs.Prelude.{◌≡◌, List, [], ◌∷◌, ◌++◌, ℕ, ◌-◌, ◌<◌, replicate}
use Rattle.calls.specs.Tweak.{text_tweak, header_tweak, blocks_of}
use Rattle.limits.specs.Limits.{header_limit, text_limit}
use Rattle.tweak.specs.TweakLaw.{IsTweak}

-- a nonce of n bytes
abbrev pub some_nonce : ℕ → List ℕ
some_nonce n = replicate n 0xA5

-- how many blocks a text and a header may have under a nonce of n bytes, the tweaks of their last numbers, and that each number's tweak is the
-- scope's, which proofs/Examples takes from the law
pub record LastNumbers (n texts headers : ℕ) (text header : List ℕ) : Type 0 where
  pub text_blocks : blocks_of (text_limit n) ≡ texts
  pub header_blocks : blocks_of (header_limit n) ≡ headers
  pub text_is : text_tweak (some_nonce n) (texts - 1) ≡ some_nonce n ++ text
  pub header_is : header_tweak (some_nonce n) (headers - 1) ≡ some_nonce n ++ header
  pub text_law : (i : ℕ) → i < texts → IsTweak (some_nonce n) (0 ∷ []) i (text_tweak (some_nonce n) i)
  pub header_law : (i : ℕ) → i < headers → IsTweak (some_nonce n) (1 ∷ 0 ∷ []) i (header_tweak (some_nonce n) i)

pub record TweakExamples : Type 0 where
  pub under13 : LastNumbers 13 1048576 1048576 (0x0F ∷ 0xFF ∷ 0xFF ∷ []) (0x8F ∷ 0xFF ∷ 0xFF ∷ [])
  pub under14 : LastNumbers 14 32768 16384 (0x7F ∷ 0xFF ∷ []) (0xBF ∷ 0xFF ∷ [])
  pub under15 : LastNumbers 15 128 64 (0x7F ∷ []) (0xBF ∷ [])
  -- 65,536 does not fit into two bytes
  pub text65536 : text_tweak (some_nonce 12) 65536 ≡ some_nonce 12 ++ 0x00 ∷ 0x01 ∷ 0x00 ∷ 0x00 ∷ []
  pub header65536 : header_tweak (some_nonce 12) 65536 ≡ some_nonce 12 ++ 0x80 ∷ 0x01 ∷ 0x00 ∷ 0x00 ∷ []
