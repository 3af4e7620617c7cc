-- An answer as the scope tells it: "When an answer is an enum, the promises use a definition that gives this paper's number and values for
-- each case." Beside each type of answer stands the definition of its cases.
use Rattle.std.specs.Prelude.{Bool, true, false, List, [], ℕ, Ok, Err}
use Rattle.suites.specs.Answer.{Answer}
use Rattle.suites.specs.Refusal.{number}

-- the refusal's number, 0 where there is none, and the values that are returned, none with a refusal
pub record Told : Type 0 where
  pub number : ℕ
  pub values : List ℕ

-- a call that did its job, with these values
abbrev pub gives : List ℕ → Told
gives values = record { number = 0; values = values }

-- a call that was turned down, with this number
abbrev pub refuses : ℕ → Told
refuses n = record { number = n; values = [] }

-- of an answer without values
abbrev pub told : Answer → Told
told (Ok done) = gives []
told (Err why) = refuses (number why)

-- where a cause is due its number, else what follows
abbrev pub due : Bool → ℕ → Told → Told
due true n rest = refuses n
due false n rest = rest

-- after a call that was done the one, after a refused one the other
abbrev pub by_answer : {A : Type 0} → Answer → A → A → A
by_answer (Ok done) new old = new
by_answer (Err why) new old = old
