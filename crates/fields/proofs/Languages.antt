-- Laws of languages.
use mathlib.Core.Path.{◌≡◌}
use mathlib.Core.Bool.{true, and-eq-true_iff}
use mathlib.Core.List.{List, [], ◌∷◌}
use Prim.Native.Nat.{ℕ}
use native.Mathlib.Omega.{arith}
use borrow.Author.Tests.{leb-true}
use lib.Dec.{leb}
use Rattle.bits.specs.Bytes.{Bytes}
use Rattle.bits.proofs.Bytes.{bytes_nil, bytes_cons}
use Rattle.fields.specs.Languages.{letter, letters}

-- letters are bytes
pub letters_bytes : (code : List ℕ) → letters code ≡ true → Bytes code
unfolding letters
letters_bytes [] ok = bytes_nil
letters_bytes (b ∷ code) ok =
    let both = (and-eq-true_iff (letter b) (letters code)).0 ok in
    let high = leb-true b 0x7A ((and-eq-true_iff (leb 0x61 b) (leb b 0x7A)).0 both.0).1 in
    bytes_cons b code (omega arith) (letters_bytes code both.1)
