-- Two bytes of a string as a number, and four.
use mathlib.Core.Path.{◌≡◌, sym, ap, ◌∙◌}
use mathlib.Core.List.{List, [], ◌∷◌}
use Prim.Native.Nat.{ℕ, ◌+◌, ◌*◌, ◌≤◌}
use native.Mathlib.Nat.{add-zero}
use native.Mathlib.Omega.{arith}
use lib.ListN.{length, get_or, take, drop}
use Rattle.bits.specs.Bytes.{number_of}
use Rattle.bits.proofs.Lists.{part_at}

pub pair_at : (s : List ℕ) (i : ℕ) → i + 2 ≤ length s → get_or s i 0 * 256 + get_or s (i + 1) 0 ≡ number_of (take 2 (drop i s))
unfolding number_of
pair_at s i h =
    let two : get_or s i 0 * 256 + get_or s (i + 1) 0 ≡ number_of (get_or s i 0 ∷ get_or s (i + 1) 0 ∷ []) = omega arith in
    two ∙ ap (λ (k : ℕ). number_of (get_or s k 0 ∷ get_or s (i + 1) 0 ∷ [])) (sym (add-zero i)) ∙ ap number_of (part_at 2 s i h)

pub four_at : (s : List ℕ) (i : ℕ) → i + 4 ≤ length s
    → ((get_or s i 0 * 256 + get_or s (i + 1) 0) * 256 + get_or s (i + 2) 0) * 256 + get_or s (i + 3) 0 ≡ number_of (take 4 (drop i s))
unfolding number_of
four_at s i h =
    let four : ((get_or s i 0 * 256 + get_or s (i + 1) 0) * 256 + get_or s (i + 2) 0) * 256 + get_or s (i + 3) 0
    ≡ number_of (get_or s i 0 ∷ get_or s (i + 1) 0 ∷ get_or s (i + 2) 0 ∷ get_or s (i + 3) 0 ∷ []) = omega arith in
    four
    ∙ ap (λ (k : ℕ). number_of (get_or s k 0 ∷ get_or s (i + 1) 0 ∷ get_or s (i + 2) 0 ∷ get_or s (i + 3) 0 ∷ [])) (sym (add-zero i))
    ∙ ap number_of (part_at 4 s i h)
