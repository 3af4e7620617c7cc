-- What opening without an output answers.
use Rattle.suites.specs.Answer.{Answer}
use Rattle.suites.specs.declared.refusal.Refusal.{Refusal}
use Rattle.std.specs.Prelude.{List, [], ◌∷◌, ℕ, length, get_or, Result, Ok, Err}
use Rattle.limits.specs.Tests.{verify_tests}
use Rattle.opening.specs.Open.{opened, agrees, then_tag}

-- 1 to 6, then 8
unfoldable pub verify_outcome : ℕ → ℕ → List ℕ → List ℕ → List ℕ → List ℕ → Answer
verify_outcome cipher steps key nonce header s =
    then_tag (verify_tests cipher steps (length key) (length nonce) (length header) (length s)) (agrees cipher steps key nonce header s)

-- the first two bytes of the text, or the refusal
abbrev pub VerifyAnswer : Type 0
VerifyAnswer = Result (List ℕ) Refusal

-- the first two bytes of the text, 0 for one that is not there
abbrev pub verify_report : Answer → List ℕ → VerifyAnswer
verify_report (Ok tt) text = Ok ((get_or text 0 0) ∷ (get_or text 1 0) ∷ [])
verify_report (Err why) text = Err why

unfoldable pub verify_answer : ℕ → ℕ → List ℕ → List ℕ → List ℕ → List ℕ → VerifyAnswer
verify_answer cipher steps key nonce header s = verify_report (verify_outcome cipher steps key nonce header s) (opened cipher steps key nonce header s)
