-- What the definitions of trigrams mean, as statements; proofs/Laws proves them.
use Rattle.std.specs.Prelude.{◌≡◌, ◌↔◌, List, ℕ, ◌+◌, min, get_or}
use Rattle.bits.specs.Bytes.{Bytes}
use Rattle.trigrams.specs.Trigrams.{trigram, count, common}

-- the same three bytes stand from place i of x on and from place j of y on
abbrev pub SameRun : List ℕ → ℕ → List ℕ → ℕ → Type 0
SameRun x i y j = (get_or x i 0 ≡ get_or y j 0) × (get_or x (i + 1) 0 ≡ get_or y (j + 1) 0) × (get_or x (i + 2) 0 ≡ get_or y (j + 2) 0)

pub record TrigramLaws : Type 0 where
  -- of bytes, two trigrams are the same number exactly where they are the same run
  pub same : (x y : List ℕ) → Bytes x → Bytes y → (i j : ℕ) → (trigram x i ≡ trigram y j) ↔ SameRun x i y j
  -- "each run counted as often as both have it": as often as the one has it that has it less often
  pub often : (v : ℕ) (x y : List ℕ) → count v (common x y) ≡ min (count v x) (count v y)
