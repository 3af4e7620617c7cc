-- Opening into a working buffer, with ciphertext and tag apart.
use Rattle.suites.specs.Answer.{Answer}
use Rattle.std.specs.Prelude.{List, ◌++◌, ℕ, length, take, drop, Ok, Err}
use Rattle.limits.specs.Tests.{verify_tests}
use Rattle.opening.specs.Open.{opened}

-- the text's start, as much as there is room for; the other bytes stay
abbrev pub held_in : Answer → List ℕ → List ℕ → List ℕ
held_in (Ok tt) text work = take (length work) text ++ drop (length text) work
held_in (Err why) text work = work

-- what is left in a working buffer: the text, whether or not the tag agrees; nothing where an earlier test refuses
unfoldable pub within_buffer : ℕ → ℕ → List ℕ → List ℕ → List ℕ → List ℕ → List ℕ → List ℕ
within_buffer cipher steps key nonce header s work =
    held_in (verify_tests cipher steps (length key) (length nonce) (length header) (length s)) (opened cipher steps key nonce header s) work
