-- The bytes that std's methods give of a number, the highest first, are the definition's.
use mathlib.Core.Path.{◌≡◌, refl}
use mathlib.Core.List.{◌∷◌}
use Prim.Native.Nat.{ℕ, zero, suc, ◌/◌, ◌%◌, ◌^◌}
use native.Mathlib.Omega.{arith}
use Rattle.std.specs.Int.{byte_at, bytes_high_first}
use Rattle.bits.specs.Bytes.{big_endian}

pub high_first_is : (k v : ℕ) → bytes_high_first k v ≡ big_endian k v
unfolding big_endian
high_first_is zero v = refl
high_first_is (suc k) v = λ i. byte k i ∷ high_first_is k v i
  where
    byte : (k : ℕ) → byte_at k v ≡ v / 256 ^ k % 256
    byte zero = omega arith
    byte (suc k) = refl
