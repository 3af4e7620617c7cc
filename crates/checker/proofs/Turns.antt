-- One turn of the loop over the frames of a book.
use Rattle.parser.specs.FrameAnswer.{FrameAnswer}
use Rattle.parser.specs.declared.frame.Frame.{Frame}
use Rattle.parser.specs.declared.frame.Frame.TheVariants.{Close, Unit}
use Rattle.std.specs.Prelude.{Ok, Err}
use mathlib.Core.Path.{◌≡◌, ap, subst, ◌∙◌}
use mathlib.Core.List.{List}
use Prim.Native.Nat.{ℕ, suc, ◌+◌, ◌-◌, ◌≤◌}
use native.Mathlib.Omega.{arith}
use lib.ListN.{drop}
use lib.Seq.{drop-drop}
use Rattle.suites.specs.declared.refusal.Refusal.{Refusal}
use Rattle.fields.specs.Kind.{Kind}
use Rattle.kinds.specs.Lengths.{frame_length, unit_calls, close_calls}
use Rattle.parser.specs.Frame.{most_units, after_unit, frame_at}
use Rattle.parser.proofs.Frames.{UnitTold, unit_told}
use Rattle.seals.specs.Seal.{unit_seal_tests, close_seal_tests}
use Rattle.seals.proofs.Verified.{after_unit_is}
use Rattle.checker.specs.Check.{checked_at, by_frame, check_from, CheckAnswer, accepted}
use Rattle.checker.proofs.Sealed.{unit_sealed}
use Rattle.checker.proofs.From.{from_step}

-- the frame that an answer holds is the one that was matched
pub frame_is : {a b : Frame} {f : FrameAnswer} → a ≡ b → ◌≡◌ {A = FrameAnswer} (Ok a) f → ◌≡◌ {A = FrameAnswer} (Ok b) f
frame_is {a} {b} {f} e h = subst (λ (x : Frame). ◌≡◌ {A = FrameAnswer} (Ok x) f) e h

module _ (kind : Kind) (key o : List ℕ) where
  -- a unit that passes its tests
  pub unit_there : (n m : ℕ) (s : List ℕ) → checked_at kind key o n s ≡ Ok (Unit m) → UnitTold kind n m s
  unfolding checked_at
  unit_there n m s e =
      unit_told kind n m s (unit_sealed (λ (k : ℕ). unit_seal_tests kind key o n k s) (close_seal_tests kind key o n s) (frame_at kind n s) m e).0

  -- check from a place of s on, where n units have been read
  abbrev pub check_at_place : ℕ → ℕ → ℕ → List ℕ → CheckAnswer
  check_at_place place n total s = check_from kind key o (suc most_units - n) n total (drop place s)

  module _ (place n total : ℕ) (s : List ℕ) (few : n ≤ most_units) where
    turn : (f : FrameAnswer) → checked_at kind key o n (drop place s) ≡ f
        → check_at_place place n total s
        ≡ by_frame f (λ (m : ℕ). check_from kind key o (most_units - n) (suc n) (total + unit_calls kind m) (after_unit kind m (drop place s)))
        (accepted n (total + close_calls kind))
    turn f e =
        let more : suc most_units - n ≡ suc (most_units - n) = omega arith in
        ap (λ (left : ℕ). check_from kind key o left n total (drop place s)) more
        ∙ from_step kind key o (most_units - n) n total (drop place s) f e

    pub turn_refused : (why : Refusal) → checked_at kind key o n (drop place s) ≡ Err why → check_at_place place n total s ≡ Err why
    turn_refused why e = turn (Err why) e

    pub turn_close : checked_at kind key o n (drop place s) ≡ Ok Close → check_at_place place n total s ≡ accepted n (total + close_calls kind)
    turn_close e = turn (Ok Close) e

    pub turn_unit : (m : ℕ) → checked_at kind key o n (drop place s) ≡ Ok (Unit m)
        → check_at_place place n total s ≡ check_at_place (place + frame_length kind m) (n + 1) (total + unit_calls kind m) s
    turn_unit m e =
        let left : most_units - n ≡ suc most_units - (n + 1) = omega arith in
        let next : suc n ≡ n + 1 = omega arith in
        let rest : after_unit kind m (drop place s) ≡ drop (place + frame_length kind m) s =
        after_unit_is kind (drop place s) m ∙ drop-drop (frame_length kind m) place s in
        turn (Ok (Unit m)) e ∙ (λ i. check_from kind key o (left i) (next i) (total + unit_calls kind m) (rest i))
