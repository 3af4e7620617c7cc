-- What `start`, `add` and `close` answer. All but `start` go by the kind of book that the writer makes.
use Rattle.suites.specs.Answer.{Answer}
use Rattle.std.specs.Prelude.{Bool, not, ◌&&◌, List, ℕ, ◌+◌, ◌*◌, eqb, leb, ltb, length, Ok}
use Rattle.suites.specs.declared.refusal.Refusal.TheVariants.{
  SuiteNotListed,
  KeyLength,
  OutputTooShort,
  WriterInvalid,
  WriterClosed,
  LanguagesNotAllowed,
  SegmentLength,
  TooManyUnits,
}
use Rattle.suites.specs.declared.suite.Suite.{Suite}
use Rattle.suites.specs.Suite.{listed}
use Rattle.limits.specs.Tests.{unless}
use Rattle.fields.specs.Kind.{Kind}
use Rattle.fields.specs.Languages.{pair_allowed}
use Rattle.kinds.specs.Lengths.{unit_length, close_length}
use Rattle.fields.specs.Unit.{BookUnit, in_range}
use Rattle.writer_state.specs.declared.Writer.{Writer}

-- "Start: 1, 2, 7", under a key of k bytes and with a buffer of room bytes
unfoldable pub start_outcome : Suite → ℕ → ℕ → Answer
start_outcome suite k room =
    unless (listed suite.cipher suite.steps) SuiteNotListed
    (unless (eqb k 16) KeyLength
    (unless (leb 16 room) OutputTooShort
    (Ok tt)))

-- "writer with unlisted suite, place under 16 or past the buffer, count over 65,535, or call total over 1,024 × (count + 1): 9"; the limit of
-- the count is the kind's
abbrev pub valid : Kind → Writer → ℕ → Bool
valid kind w room =
    listed w.suite.cipher w.suite.steps
    && (leb 16 w.place && (leb w.place room && (leb w.count kind.unit_limit && leb w.total (1024 * (w.count + 1)))))

-- that, then "writer closed: 10", then the rest
unfoldable pub writer_tests : Kind → Writer → ℕ → Answer → Answer
writer_tests kind w room rest =
    unless (valid kind w room) WriterInvalid
    (unless (not w.closed) WriterClosed
    rest)

-- "Add: 9 to 13, 7", of a unit with a source of s bytes and a target of t: "language pair not allowed: 11", "s or t out of range: 12",
-- "65,535 units already: 13", which is the kind's limit, "output too short for the result: 7". The rule for languages is one for all kinds:
-- "the earlier writer of request 4 is taken with this rule too"
unfoldable pub add_tests : Kind → Writer → List ℕ → List ℕ → ℕ → ℕ → ℕ → Answer
add_tests kind w from to s t room =
    writer_tests kind w room
    (unless (pair_allowed from to) LanguagesNotAllowed
    (unless (in_range s t) SegmentLength
    (unless (ltb w.count kind.unit_limit) TooManyUnits
    (unless (leb (w.place + unit_length kind s t) room) OutputTooShort
    (Ok tt)))))

unfoldable pub add_outcome : Kind → Writer → BookUnit → ℕ → Answer
add_outcome kind w u room = add_tests kind w u.from u.to (length u.source) (length u.target) room

-- "Close: 9, 10, 7"
unfoldable pub close_outcome : Kind → Writer → ℕ → Answer
close_outcome kind w room =
    writer_tests kind w room
    (unless (leb (w.place + close_length kind) room) OutputTooShort
    (Ok tt))
