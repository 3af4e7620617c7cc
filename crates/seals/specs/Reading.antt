-- What the maker of a reading answers.
use Rattle.std.specs.Prelude.{◌≡◌, List, ℕ, Result, Ok, Err}
use Rattle.suites.specs.Answer.{Answer}
use Rattle.suites.specs.declared.refusal.Refusal.{Refusal}
use Rattle.kinds.specs.Kind.{book_kind}
use Rattle.opening_fields.specs.Opening.{opening_bytes}
use Rattle.seals.specs.declared.reading.Reading.{Reading}

-- its tests: done where there is a reading, else the refusal
abbrev pub tests_of : Result Reading Refusal → Answer
tests_of (Ok r) = Ok tt
tests_of (Err why) = Err why

-- the reading r of a book s under a key
pub record ReadingOf (key s : List ℕ) (r : Reading) : Type 0 where
  pub kind_is : r.kind ≡ book_kind s
  pub key_is : r.key.now ≡ key
  pub front_is : r.front.now ≡ opening_bytes s
