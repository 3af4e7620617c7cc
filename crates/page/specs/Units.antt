-- What the code that writes a page asks for and hands on; no entry point's contract speaks of it.
use Rattle.parser.specs.declared.frame.Frame.TheVariants.{Unit}
use Rattle.std.specs.Prelude.{◌≡◌, List, ℕ, suc, length, Ok}
use Rattle.fields.specs.Kind.{Kind}
use Rattle.kinds.specs.Lengths.{frame_length}
use Rattle.parser.specs.Frame.{after_unit}
use Rattle.checker.specs.Check.{checked_at}
use Rattle.page.specs.Page.{ciphertext_length, source_at, row}

-- a unit stands there that was checked
abbrev pub UnitThere : Kind → List ℕ → List ℕ → ℕ → List ℕ → Type 0
UnitThere kind key o n s = checked_at kind key o n s ≡ Ok (Unit (ciphertext_length kind s))

-- so many units stand there that were checked, one behind the other
pub data Units (kind : Kind) (key o : List ℕ) : ℕ → ℕ → List ℕ → Type 0 where
  none : {n : ℕ} {s : List ℕ} → Units kind key o 0 n s
  more : {count n : ℕ} {s : List ℕ} → UnitThere kind key o n s
      → Units kind key o count (suc n) (after_unit kind (ciphertext_length kind s) s) → Units kind key o (suc count) n s

-- the row of the unit there was put, and r is the unit's length; the typed sentence stays prepared, and the room stays, for the next one
pub record PutRow (kind : Kind) (key o : List ℕ) (n : ℕ) (s typed typed_left text text_left left : List ℕ) (r : ℕ) : Type 0 where
  pub prepared : typed_left ≡ typed
  pub room : length text_left ≡ length text
  pub put : left ≡ row typed (source_at kind key o n s)
  pub step : r ≡ frame_length kind (ciphertext_length kind s)
