-- Trigrams: the request's three-byte runs of a segment, and those that two segments share.
use Rattle.std.specs.Prelude.{cond, List, [], ◌∷◌, ℕ, suc, ◌+◌, ◌-◌, ◌*◌, eqb, length, get_or}
use Rattle.bits.specs.Table.{tab}

-- the three bytes from place i on, as one number; of bytes, two are the same number exactly where they are the same three bytes
-- (`same` in Laws)
unfoldable pub trigram : List ℕ → ℕ → ℕ
trigram s i = get_or s i 0 + 256 * get_or s (i + 1) 0 + 65536 * get_or s (i + 2) 0

-- "For a segment take its three-byte runs, none if shorter than 3": one from each place but the last two (`length s - 2` is 0 where s is
-- shorter than that)
unfoldable pub trigrams : List ℕ → List ℕ
trigrams s = tab (length s - 2) (trigram s)

-- how often v stands in a list
unfoldable pub count : ℕ → List ℕ → ℕ
count v [] = 0
count v (u ∷ x) = cond (eqb u v) (suc (count v x)) (count v x)

-- a list without the first v in it
unfoldable pub less : ℕ → List ℕ → List ℕ
less v [] = []
less v (u ∷ x) = cond (eqb u v) x (u ∷ less v x)

-- what two lists have in common: each element of the second for which there is one left in the first, which it takes away
unfoldable pub common : List ℕ → List ℕ → List ℕ
common x [] = []
common x (v ∷ y) = cond (eqb (count v x) 0) (common x y) (v ∷ common (less v x) y)

-- "c shared (each run counted as often as both have it)": v stands in `common x y` as often as in x and in y, whichever has it
-- less often (`often` in Laws)
unfoldable pub shared : List ℕ → List ℕ → ℕ
shared x y = length (common x y)
