-- What the code that deciphers the source of a unit leaves; no entry point's contract speaks of it.
use Rattle.std.specs.Prelude.{◌≡◌, List, ℕ, ◌+◌, ◌≤◌, length, take, drop}
use Rattle.fields.specs.Unit.{source_length, source_of}

-- the start of a text stands at the start of `left`, up to the end of its source, which has r bytes; `left` is as long as `work`
pub record HasFront (text work left : List ℕ) (r : ℕ) : Type 0 where
  pub length_is : r ≡ source_length text
  pub front : take (2 + r) left ≡ take (2 + r) text
  pub long : length left ≡ length work

-- the source of a unit's text stands in `left`, behind its length
pub record HasSource (text work left : List ℕ) (r : ℕ) : Type 0 where
  pub source : take r (drop 2 left) ≡ source_of text
  pub length_is : r ≡ length (source_of text)
  pub most : r ≤ 4096
  pub long : length left ≡ length work
