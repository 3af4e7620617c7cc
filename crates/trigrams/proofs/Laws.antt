-- What the definitions of trigrams mean.
use mathlib.Core.Path.{◌≡◌}
use mathlib.Core.List.{List}
use Prim.Native.Nat.{ℕ, ◌+◌, ◌*◌}
use Rattle.trigrams.specs.Trigrams.{trigram}
use Rattle.trigrams.specs.Laws.{SameRun, TrigramLaws}
use Rattle.trigrams.proofs.Trigrams.{trigram_same}
use Rattle.trigrams.proofs.Common.{common_count}

same_number : (x : List ℕ) (i : ℕ) (y : List ℕ) (j : ℕ) → SameRun x i y j → trigram x i ≡ trigram y j
unfolding trigram
same_number x i y j (a, b, c) = λ k. a k + 256 * b k + 65536 * c k

pub trigram_laws : TrigramLaws
trigram_laws =
    record {
      same = λ x y bx by i j. (trigram_same bx by i j, same_number x i y j);
      often = common_count;
    }
