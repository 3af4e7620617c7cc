-- The tweakeys of 64 states as the code holds them: three arrays of planes, of which iScream uses two. No entry point's contract cites this crate.
use Rattle.std.specs.Prelude.{List, [], ℕ, ◌%◌, get_or}
use Rattle.rounds.specs.declared.Cipher.{Cipher}
use Rattle.rounds.specs.declared.Cipher.TheVariants.{Scream, IScream}
use Rattle.planes.specs.Planes.{lane}

-- the planes that are added after step σ, and before the first one for σ = 0
abbrev pub planes_at : Cipher → List (List (List ℕ)) → ℕ → List (List ℕ)
planes_at Scream t σ = get_or t (σ % 3) []
planes_at IScream t σ = get_or t (σ % 2) []

-- the tweakeys of state b
unfoldable pub tweakeys_of : Cipher → List (List (List ℕ)) → ℕ → ℕ → List ℕ
tweakeys_of c t b σ = lane (planes_at c t σ) b
