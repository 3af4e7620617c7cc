-- The refusals that need only lengths, by the scope's numbers: the first cause that is due, of a suite, a key of k bytes, a nonce of n and a
-- header of a. These are the tests by which `seal` and `open` answer (seal_told_lem, open-told).
use Rattle.std.specs.Prelude.{not, ◌&&◌, [], ℕ, ◌+◌, ◌-◌, eqb, leb}
use Rattle.suites.specs.Suite.{listed}
use Rattle.suites.specs.Told.{Told, gives, due}
use Rattle.limits.specs.Limits.{header_limit, text_limit}

abbrev pub input_due : ℕ → ℕ → ℕ → ℕ → ℕ → Told → Told
input_due cipher steps k n a rest =
    due (not (listed cipher steps)) 1
    (due (not (eqb k 16)) 2
    (due (not (leb 1 n && leb n 15)) 3
    (due (not (leb a (header_limit n))) 4
    rest)))

-- "Seal: 1, 2, 3, 4, 6, 7", of a text of m bytes and an output of o
unfoldable pub seal_due : ℕ → ℕ → ℕ → ℕ → ℕ → ℕ → ℕ → Told
seal_due cipher steps k n a m o =
    input_due cipher steps k n a
    (due (not (leb m (text_limit n))) 6
    (due (not (leb (m + 16) o)) 7
    (gives [])))

-- "Open: 1 to 8", of which 8 needs the tag; of s sealed bytes and an output of o
unfoldable pub open_due : ℕ → ℕ → ℕ → ℕ → ℕ → ℕ → ℕ → Told
open_due cipher steps k n a s o =
    input_due cipher steps k n a
    (due (not (leb 16 s)) 5
    (due (not (leb (s - 16) (text_limit n))) 6
    (due (not (leb (s - 16) o)) 7
    (gives []))))
