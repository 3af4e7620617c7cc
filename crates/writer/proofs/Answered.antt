-- What an answer tells, by whether it is a refusal.
use Rattle.std.specs.Prelude.{Ok, Err}
use Rattle.std.specs.Result.{is_err}
use mathlib.Core.Path.{◌≡◌, refl, sym, ◌∙◌}
use mathlib.Core.Bool.{Bool, true, false}
use Rattle.suites.specs.Answer.{Answer}
use Rattle.suites.specs.Told.{by_answer}

done_of : (a : Answer) → is_err a ≡ false → a ≡ Ok tt
done_of (Ok tt) e = refl
done_of (Err why) e = cc

kept_of : {A : Type 0} (a : Answer) (new old : A) → is_err a ≡ true → old ≡ by_answer a new old
kept_of (Ok tt) new old e = cc
kept_of (Err why) new old e = refl

-- an answer that is no refusal
pub done : (a : Answer) {r : Bool} → r ≡ is_err a → r ≡ false → a ≡ Ok tt
done a is f = done_of a (sym is ∙ f)

-- and a refusal leaves what there was
pub kept : {A : Type 0} (a : Answer) {r : Bool} (new old : A) → r ≡ is_err a → r ≡ true → old ≡ by_answer a new old
kept a new old is t = kept_of a new old (sym is ∙ t)
