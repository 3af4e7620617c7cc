-- What the maker of tables is asked for.
use Rattle.std.specs.Prelude.{◌≡◌, cond, List, ℕ, ltb, Option, Some, None}
use Rattle.printed.specs.Printed.{table}

-- the table at a place; at a place past the last there is none
pub record Makes (place : ℕ) (answer : Option (List ℕ)) : Type 0 where
  pub says : answer ≡ cond (ltb place 15) (Some (table place)) None
