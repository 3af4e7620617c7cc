-- A frame behind the tests of its seal.
use Rattle.suites.specs.Answer.{Answer}
use Rattle.parser.specs.FrameAnswer.{FrameAnswer}
use Rattle.parser.specs.declared.frame.Frame.TheVariants.{Close, Unit}
use Rattle.std.specs.Prelude.{Ok, Err}
use mathlib.Core.Path.{◌≡◌, refl, ap, ◌∙◌}
use Prim.Native.Nat.{ℕ}
use native.Mathlib.Omega.{arith}
use Rattle.parser.specs.Frame.{frame_of}
use Rattle.checker.specs.Check.{with_seal}

-- a frame whose tests are done is there, and its seal's tests are done

pub frame_unit : (a : Answer) (f : FrameAnswer) (m : ℕ) → frame_of a f ≡ Ok (Unit m) → (a ≡ Ok tt) × (f ≡ Ok (Unit m))
frame_unit (Ok tt) f m e = (refl, e)
frame_unit (Err why) f m e = let z : ◌≡◌ {A = ℕ} 0 1 = cc in absurd (omega arith)

pub frame_close : (a : Answer) (f : FrameAnswer) → frame_of a f ≡ Ok Close → (a ≡ Ok tt) × (f ≡ Ok Close)
frame_close (Ok tt) f e = (refl, e)
frame_close (Err why) f e = let z : ◌≡◌ {A = ℕ} 0 1 = cc in absurd (omega arith)

module _ (unit : ℕ → Answer) (close : Answer) where
  pub unit_sealed : (f : FrameAnswer) (m : ℕ) → with_seal f unit close ≡ Ok (Unit m) → (f ≡ Ok (Unit m)) × (unit m ≡ Ok tt)
  unit_sealed (Ok (Unit k)) m e =
      let both = frame_unit (unit k) (Ok (Unit k)) m e in
      let q : Ok (Unit k) ≡ Ok (Unit m) = both.1 in
      let same : m ≡ k = cc in
      (q, ap unit same ∙ both.0)
  unit_sealed (Ok Close) m e =
      let q = (frame_unit close (Ok Close) m e).1 in
      let z : ◌≡◌ {A = ℕ} 0 1 = cc in
      absurd (omega arith)
  unit_sealed (Err why) m e = let z : ◌≡◌ {A = ℕ} 0 1 = cc in absurd (omega arith)

  pub close_sealed_lem : (f : FrameAnswer) → with_seal f unit close ≡ Ok Close → (f ≡ Ok Close) × (close ≡ Ok tt)
  close_sealed_lem (Ok (Unit k)) e =
      let q = (frame_close (unit k) (Ok (Unit k)) e).1 in
      let z : ◌≡◌ {A = ℕ} 0 1 = cc in
      absurd (omega arith)
  close_sealed_lem (Ok Close) e = (refl, (frame_close close (Ok Close) e).0)
  close_sealed_lem (Err why) e = let z : ◌≡◌ {A = ℕ} 0 1 = cc in absurd (omega arith)
