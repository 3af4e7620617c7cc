-- Languages.
use Rattle.std.specs.Prelude.{Bool, true, ◌&&◌, List, [], ◌∷◌, ℕ, leb}

-- "letters a to z"
abbrev pub letter : ℕ → Bool
letter b = leb 0x61 b && leb b 0x7A

-- every byte of a code is one
unfoldable pub letters : List ℕ → Bool
letters [] = true
letters (b ∷ code) = letter b && letters code

-- "Languages are letters a to z"; "the trade allows equal codes, so 11's cause is now exactly a byte that is no letter a to z"
unfoldable pub pair_allowed : List ℕ → List ℕ → Bool
pair_allowed from to = letters from && letters to
