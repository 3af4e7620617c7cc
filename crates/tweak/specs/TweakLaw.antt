-- The law of request 3: 32 bits hold the number of every block within the limits, and the tweak of each number is the scope's, byte for byte. It
-- speaks of the contracts of the makers: `text_tweaks` needs `Makeable` and leaves `made_in` of `text_tweak`, `header_tweaks` the same of `header_tweak`, and
-- `special_tweak` gives `special_tweak`.
use Rattle.std.specs.Prelude.{◌≡◌, List, [], ◌∷◌, ◌++◌, ℕ, ◌+◌, ◌-◌, ◌*◌, ◌^◌, ◌≤◌, ◌<◌, length, take, drop, replicate}
use Rattle.bits.specs.Bytes.{Bytes}
use Rattle.blockwise.specs.Blocks.{block}
use Rattle.calls.specs.Tweak.{text_tweak, header_tweak, special_tweak, blocks_of}
use Rattle.calls.specs.TweakBits.{high_first, bits_of}
use Rattle.limits.specs.Limits.{header_limit, text_limit}
use Rattle.tweak.specs.Made.{Makeable, made_in}

-- "A nonce has n bytes, 1 to 15, and stands first." "After the nonce, highest bit first, number big-endian in all remaining bits", which are
-- those behind the bits of `mark`; the number fits into them, so that it is not cut off
pub record IsTweak (nonce mark : List ℕ) (number : ℕ) (t : List ℕ) : Type 0 where
  pub long : length t ≡ 16
  -- bytes stand behind the nonce: bits alone would not tell 261 from 5
  pub bytes : Bytes (drop (length nonce) t)
  pub nonce_first : take (length nonce) t ≡ nonce
  pub fits : number < 2 ^ (128 - length mark - 8 * length nonce)
  pub then_number : bits_of (drop (length nonce) t) ≡ mark ++ high_first (128 - length mark - 8 * length nonce) number

-- the tweaks of the k numbers from `first` on can be made, these numbers being in 32 bits; each that is made is the definition's, and that is
-- the scope's
pub record MadeTweaks (tweak_of : List ℕ → ℕ → List ℕ) (mark nonce : List ℕ) (first k : ℕ) (lent : List ℕ) : Type 0 where
  pub makeable : Makeable nonce first k lent
  pub made : (i : ℕ) → i < k → block (made_in (tweak_of nonce) first k lent) i ≡ tweak_of nonce (first + i)
  pub scope : (i : ℕ) → i < k → IsTweak nonce mark (first + i) (tweak_of nonce (first + i))

-- of strings of at most `limit n` bytes under a nonce of n: their blocks have the numbers below blocks_of (limit n)
pub record WithinLimits (limit : ℕ → ℕ) (tweak_of : List ℕ → ℕ → List ℕ) (mark : List ℕ) : Type 0 where
  -- "no block index passes 1,048,575"
  pub small : (n i : ℕ) → i < blocks_of (limit n) → i ≤ 1048575
  -- "For every nonce and every block number within its limits the tweak is document 01's, byte for byte"
  pub makes : (nonce : List ℕ) → length nonce ≤ 15
      → (first k : ℕ) → first + k ≤ blocks_of (limit (length nonce))
      → (lent : List ℕ) → 16 * k ≤ length lent
      → MadeTweaks tweak_of mark nonce first k lent

pub record TweakLaw : Type 0 where
  -- "not-last text block 0 and number"
  pub text : WithinLimits text_limit text_tweak (0 ∷ [])
  -- "not-last header block 10 and number"
  pub header : WithinLimits header_limit header_tweak (1 ∷ 0 ∷ [])
  -- at most one string is the tweak of a nonce, a mark and a number
  pub one : (nonce mark : List ℕ) (number : ℕ) (t u : List ℕ) → IsTweak nonce mark number t → IsTweak nonce mark number u → t ≡ u
  -- without a number: "Special tweaks have after the nonce one byte, then zeros"; which byte a last block and the tag have is in calls/specs/Tweak
  pub special : (nonce : List ℕ) → length nonce ≤ 15 → (byte : ℕ) → byte < 256
      → special_tweak nonce byte ≡ nonce ++ byte ∷ replicate (15 - length nonce) 0
