-- Strings cut into blocks of 16 of which only the last may be shorter.
use mathlib.Core.Path.{◌≡◌, refl, sym, ap, ◌∙◌}
use mathlib.Core.List.{List, ◌++◌}
use Prim.Native.Nat.{ℕ, zero, suc, ◌+◌, ◌*◌, ◌≤◌, ◌<◌}
use native.Mathlib.Omega.{arith}
use lib.ListN.{length, take, drop, length-append, length-take}
use lib.Seq.{take-add, take_all}
use Rattle.bits.specs.Bytes.{Bytes}
use Rattle.bits.proofs.Bytes.{bytes_nil, bytes_append, bytes_take, bytes_drop}
use Rattle.blockwise.specs.Blocks.{block, strung}
use Rattle.calls.specs.Tweak.{blocks_of}

strung_front : (n : ℕ) (x : List ℕ) → strung n (block x) ≡ take (16 * n) x
unfolding strung
strung_front zero x = refl
strung_front (suc n) x =
    let sixteens : 16 * n + 16 ≡ 16 * suc n = omega arith in
    ap (λ (y : List ℕ). y ++ block x n) (strung_front n x) ∙ sym (take-add (16 * n) 16 x) ∙ ap (λ (m : ℕ). take m x) sixteens

pub strung_blocks : (x : List ℕ) → strung (blocks_of (length x)) (block x) ≡ x
strung_blocks x = strung_front (blocks_of (length x)) x ∙ take_all (16 * blocks_of (length x)) x (omega arith)

-- strings of equal lengths
pub strung_long : (n : ℕ) (f g : ℕ → List ℕ) → ((i : ℕ) → i < n → length (f i) ≡ length (g i)) → length (strung n f) ≡ length (strung n g)
unfolding strung
strung_long zero f g h = refl
strung_long (suc n) f g h =
    simp length-append (omega (arith, strung_long n f g (λ i l. h i (omega arith)), h n (omega arith)))

pub length_strung : (n : ℕ) (g : ℕ → List ℕ) (x : List ℕ) → n ≡ blocks_of (length x) → ((i : ℕ) → i < n → length (g i) ≡ length (block x i))
    → length (strung n g) ≡ length x
length_strung n g x e h = strung_long n g (block x) h ∙ ap (λ (m : ℕ). length (strung m (block x))) e ∙ ap length (strung_blocks x)

pub block_short : (x : List ℕ) (i : ℕ) → length (block x i) ≤ 16
block_short x i = rw length-take (omega arith)

-- blocks of bytes

pub bytes_block : (x : List ℕ) (i : ℕ) → Bytes x → Bytes (block x i)
bytes_block x i h = bytes_take 16 (drop (16 * i) x) (bytes_drop (16 * i) x h)

pub bytes_strung : (n : ℕ) (g : ℕ → List ℕ) → ((i : ℕ) → i < n → Bytes (g i)) → Bytes (strung n g)
unfolding strung
bytes_strung zero g h = bytes_nil
bytes_strung (suc n) g h = bytes_append (strung n g) (g n) (bytes_strung n g (λ i l. h i (omega arith))) (h n (omega arith))
