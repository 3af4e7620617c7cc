-- What the calls without a key leave in what C lends them.
use Rattle.std.specs.Prelude.{List, ℕ, Ok, Err}
use Rattle.suites.specs.Answer.{Answer}
use Rattle.walk.specs.Clear.{ClearAnswer}
use Rattle.walk.specs.declared.clear.Clear.{Clear}

-- what is lent for a unit: the codes with their lengths, the ciphertext's place and length, and the place of the next unit
pub record Lent : Type 0 where
  pub from : List ℕ
  pub from_len : ℕ
  pub to : List ℕ
  pub to_len : ℕ
  pub ciphertext_at : ℕ
  pub ciphertext_len : ℕ
  pub next : ℕ

abbrev pub lent : List ℕ → ℕ → List ℕ → ℕ → ℕ → ℕ → ℕ → Lent
lent from from_len to to_len ciphertext_at ciphertext_len next =
    record {
      from = from;
      from_len = from_len;
      to = to;
      to_len = to_len;
      ciphertext_at = ciphertext_at;
      ciphertext_len = ciphertext_len;
      next = next;
    }

-- what a unit's fields say in the clear, put there
abbrev pub said_of : Clear → Lent
said_of c =
    lent c.from.bytes c.from.len c.to.bytes c.to.len c.ciphertext.at c.ciphertext.len c.next

-- the answer of the call: that the fields say something, or the refusal
abbrev pub clear_answer : ClearAnswer → Answer
clear_answer (Ok c) = Ok tt
clear_answer (Err why) = Err why

-- where the unit begins, after the call; with a refusal what was there
abbrev pub at_after : ClearAnswer → ℕ → ℕ
at_after (Ok c) old = c.at
at_after (Err why) old = old

-- what else is there after the call, likewise
abbrev pub lent_after : ClearAnswer → Lent → Lent
lent_after (Ok c) old = said_of c
lent_after (Err why) old = old
