-- The state as the code holds it, in which no entry point's contract speaks: two words of four rows each, the first row lowest.
use Rattle.std.specs.Prelude.{List, [], ◌∷◌, ℕ, ◌/◌, ◌%◌}
use Rattle.state.specs.declared.State.{State}

unfoldable pub rows_of : State → List ℕ
rows_of s =
    (s.low % 65536) ∷
    (s.low / 65536 % 65536) ∷
    (s.low / 4294967296 % 65536) ∷
    (s.low / 281474976710656 % 65536) ∷
    (s.high % 65536) ∷
    (s.high / 65536 % 65536) ∷
    (s.high / 4294967296 % 65536) ∷
    (s.high / 281474976710656 % 65536) ∷
    []
