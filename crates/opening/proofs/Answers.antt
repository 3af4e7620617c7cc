-- The answers of `open`, by what its tests say.
use Rattle.suites.specs.Answer.{Answer}
use Rattle.std.specs.Prelude.{Ok, Err}
use mathlib.Core.Path.{◌≡◌, sym, ap, ◌∙◌}
use mathlib.Core.List.{List}
use Prim.Native.Nat.{ℕ, ◌-◌, ◌≤◌}
use native.Mathlib.Nat.{le_trans}
use native.Mathlib.Omega.{arith}
use lib.ListN.{length}
use lib.Seq.{length-take-le}
use Rattle.suites.specs.declared.refusal.Refusal.{Refusal}
use Rattle.suites.specs.declared.suite.Suite.{Suite}
use Rattle.limits.specs.Tests.{open_tests}
use Rattle.limits.proofs.Passed.{Verifiable, open_passed, header_limit_most, text_limit_most}
use Rattle.text_blocks.specs.Text.{Usable}
use Rattle.opening.specs.Open.{ciphertext, opened, agrees, then_tag, by_tag, Compared, open_outcome, open_report, open_answer, open_buffer}
use Rattle.sealing.specs.Passes.{Passable}
use Rattle.sealing.specs.Seal.{written}

-- what the tests leave true of key, nonce, header and sealed bytes
pub record Ready (s : Suite) (key nonce h x : List ℕ) : Type 0 where
  pub whole : length key ≡ 16
  pub header : Passable s nonce h
  pub text : Passable s nonce (ciphertext x)
  pub long : 16 ≤ length x

pub ready : (s : Suite) (key nonce h x : List ℕ) → Verifiable s.cipher s.steps (length key) (length nonce) (length h) (length x)
    → Ready s key nonce h x
ready s key nonce h x v =
    let i = v.inputs in
    let u : Usable s nonce = record { suite = i.suite; short = i.short } in
    let m : length (ciphertext x) ≡ length x - 16 = length-take-le (length x - 16) x (omega arith) in
    record {
      whole = i.key;
      header = record { usable = u; small = le_trans i.header (header_limit_most (length nonce)) };
      text = record { usable = u; small = rw m (le_trans v.text (text_limit_most (length nonce))) };
      long = v.long;
    }

module _ (s : Suite) (key nonce h x out : List ℕ) where
  -- what the tests answer
  abbrev pub tests : Answer
  tests = open_tests s.cipher s.steps (length key) (length nonce) (length h) (length x) (length out)

  pub open_refused : (why : Refusal) → tests ≡ Err why
      → (Err why ≡ open_answer s.cipher s.steps key nonce h x out) × (out ≡ open_buffer s.cipher s.steps key nonce h x out)
  unfolding open_outcome open_answer open_buffer
  open_refused why e = (
    sym (ap (λ (a : Answer). open_report (then_tag a (agrees s.cipher s.steps key nonce h x)) (length x - 16)) e),
    sym (ap (λ (a : Answer). written (then_tag a (agrees s.cipher s.steps key nonce h x)) (opened s.cipher s.steps key nonce h x) out) e),
  )

  module _ (e : tests ≡ Ok tt) where
    pub open_ready : Ready s key nonce h x
    open_ready =
        ready s key nonce h x (open_passed s.cipher s.steps (length key) (length nonce) (length h) (length x) (length out) e).sealed

    pub open_room : length x - 16 ≤ length out
    open_room = (open_passed s.cipher s.steps (length key) (length nonce) (length h) (length x) (length out) e).room

    pub open_done : (open_report (by_tag s key nonce h x) (length x - 16) ≡ open_answer s.cipher s.steps key nonce h x out)
        × (written (by_tag s key nonce h x) (opened s.cipher s.steps key nonce h x) out ≡ open_buffer s.cipher s.steps key nonce h x out)
    unfolding open_outcome open_answer open_buffer
    open_done = (
      sym (ap (λ (a : Answer). open_report (then_tag a (agrees s.cipher s.steps key nonce h x)) (length x - 16)) e),
      sym (ap (λ (a : Answer). written (then_tag a (agrees s.cipher s.steps key nonce h x)) (opened s.cipher s.steps key nonce h x) out) e),
    )

    -- by what the comparison left, under a key that is this one
    pub open_compared : {k : List ℕ} → k ≡ key → {r : Answer} {left : List ℕ} → Compared s k nonce h x out r left
        → (open_report r (length x - 16) ≡ open_answer s.cipher s.steps key nonce h x out) × (left ≡ open_buffer s.cipher s.steps key nonce h x out)
    open_compared e {r} o = (
      ap (λ (a : Answer). open_report a (length x - 16)) (o.answer ∙ ap (λ (y : List ℕ). by_tag s y nonce h x) e) ∙ open_done.0,
      o.output ∙ ap (λ (y : List ℕ). written (by_tag s y nonce h x) (opened s.cipher s.steps y nonce h x) out) e ∙ open_done.1,
    )
