-- Many blocks at once, each under its own tweak.
use Rattle.std.specs.Prelude.{List, [], ◌++◌, ℕ, zero, suc, ◌*◌, ◌/◌, min, length, take, drop}

-- block i of a string of bytes
abbrev pub block : List ℕ → ℕ → List ℕ
block xs i = take 16 (drop (16 * i) xs)

-- g 0, g 1, up to g (n - 1), one behind the other
unfoldable pub strung : ℕ → (ℕ → List ℕ) → List ℕ
strung zero g = []
strung (suc n) g = strung n g ++ g n

-- the first n blocks of b replaced, each by f of its tweak and itself; the bytes after them stay
unfoldable pub each_of : (List ℕ → List ℕ → List ℕ) → ℕ → List ℕ → List ℕ → List ℕ
each_of f n t b = strung n (λ i. f (block t i) (block b i)) ++ drop (16 * n) b

-- every whole block that both have is done, all other bytes stay
unfoldable pub each_block : (List ℕ → List ℕ → List ℕ) → List ℕ → List ℕ → List ℕ
each_block f t b = each_of f (min (length t) (length b) / 16) t b
