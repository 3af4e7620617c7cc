-- Bits one behind the other, as the laws read a tweak behind its nonce (proofs/TweakBits, and TweakLaw of tweak).
use Rattle.std.specs.Prelude.{List, [], ◌∷◌, ◌++◌, ℕ, zero, suc}
use Rattle.bits.specs.Bit.{bit}

-- the w lowest bits of a number, highest bit first
unfoldable pub high_first : ℕ → ℕ → List ℕ
high_first zero n = []
high_first (suc w) n = bit n w ∷ high_first w n

-- the bits of a string of bytes, highest bit first
unfoldable pub bits_of : List ℕ → List ℕ
bits_of [] = []
bits_of (b ∷ s) = high_first 8 b ++ bits_of s
