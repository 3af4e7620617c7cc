-- Strings of bytes.
use mathlib.Core.List.{List, [], ◌∷◌, ◌++◌}
use Prim.Native.Nat.{ℕ, zero, suc, ◌+◌, ◌<◌}
use native.Mathlib.Omega.{arith}
use lib.ListN.{get_or, take, drop, replicate}
use lib.Seq.{get_or-drop}
use Rattle.bits.specs.Bytes.{Bytes}

pub bytes_nil : Bytes []
bytes_nil = record { fit = λ i. omega arith }

pub bytes_cons : (a : ℕ) (x : List ℕ) → a < 256 → Bytes x → Bytes (a ∷ x)
bytes_cons a x h k = record { fit = at }
  where
    at : (i : ℕ) → get_or (a ∷ x) i 0 < 256
    at zero = h
    at (suc i) = k.fit i

pub bytes_tail : (a : ℕ) (x : List ℕ) → Bytes (a ∷ x) → Bytes x
bytes_tail a x h = record { fit = λ i. h.fit (suc i) }

pub bytes_append : (x y : List ℕ) → Bytes x → Bytes y → Bytes (x ++ y)
bytes_append [] y h k = k
bytes_append (a ∷ x) y h k = bytes_cons a (x ++ y) (h.fit 0) (bytes_append x y (bytes_tail a x h) k)

pub bytes_take : (n : ℕ) (x : List ℕ) → Bytes x → Bytes (take n x)
bytes_take zero x h = bytes_nil
bytes_take (suc n) [] h = bytes_nil
bytes_take (suc n) (a ∷ x) h = bytes_cons a (take n x) (h.fit 0) (bytes_take n x (bytes_tail a x h))

pub bytes_drop : (n : ℕ) (x : List ℕ) → Bytes x → Bytes (drop n x)
bytes_drop n x h = record { fit = λ i. rw get_or-drop (h.fit (n + i)) }

pub bytes_zeros : (n : ℕ) → Bytes (replicate n 0)
bytes_zeros zero = bytes_nil
bytes_zeros (suc n) = bytes_cons 0 (replicate n 0) (omega arith) (bytes_zeros n)
