-- The schedule that the code makes holds the tweakeys.
use mathlib.Core.Path.{◌≡◌, refl}
use mathlib.Core.List.{List}
use mathlib.Core.Bool.{cond}
use Prim.Native.Nat.{ℕ, zero, suc, ◌%◌, ◌<◌}
use native.Mathlib.Omega.{arith}
use lib.Dec.{eqb}
use lib.Bits.{bit_xor}
use Rattle.bits.proofs.Bits.{two}
use Rattle.state.specs.declared.State.{State}
use Rattle.state.specs.Rows.{add_rows}
use Rattle.state.specs.State.{rows_of}
use Rattle.state.proofs.Words.{rows_are, xor_digits, same_digits}
use Rattle.rounds.specs.declared.Cipher.{Cipher}
use Rattle.rounds.specs.declared.Cipher.TheVariants.{Scream, IScream}
use Rattle.tweakey.specs.declared.Schedule.{Schedule}
use Rattle.tweakey.specs.Schedule.{Scheduled, held, state_at, tweakeys_in}
use Rattle.rounds.specs.Cipher.{parts}
use Rattle.rounds.specs.Tweakey.{φ, φs, rotated, scream_tweakey, iscream_tweakey}

three : (P : ℕ → Type 0) → P 0 → P 1 → P 2 → (n : ℕ) → n < 3 → P n
three P p q r zero h = p
three P p q r (suc zero) h = q
three P p q r (suc (suc zero)) h = r
three P p q r (suc (suc (suc n))) h = absurd (omega arith)

-- a schedule has the tweakey of each step
pub tweakeys_held : {c : Cipher} {key tweak : List ℕ} {h : Schedule} → Scheduled c key tweak h → (σ : ℕ) → tweakeys_in c h σ ≡ (parts c).tweakey key tweak σ
unfolding tweakeys_in scream_tweakey iscream_tweakey
tweakeys_held {c = Scream} {key} {tweak} {h} s σ =
    three (λ (n : ℕ). rows_of (held h n) ≡ add_rows key (φs n tweak)) s.first s.second s.third (σ % 3) (omega arith)
tweakeys_held {c = IScream} {key} {tweak} {h} s σ =
    two (λ (n : ℕ). rows_of (held h n) ≡ cond (eqb n 0) (add_rows key tweak) (rotated tweak)) s.first s.second (σ % 2) (omega arith)

-- which of three, where it is none of the first two
pub held_third : (h : Schedule) (n : ℕ) → (n ≡ 0 → ⊥) → (n ≡ 1 → ⊥) → h.third ≡ held h n
held_third h zero a b = absurd (a refl)
held_third h (suc zero) a b = absurd (b refl)
held_third h (suc (suc n)) a b = refl

pub tweakeys_in_lem : (c : Cipher) (h : Schedule) (σ : ℕ) → tweakeys_in c h σ ≡ rows_of (state_at c h σ)
unfolding tweakeys_in
tweakeys_in_lem c h σ = refl

-- φ on the two words
pub phi_is : (t s : State) → s.low ≡ bit_xor t.low t.high → s.high ≡ t.low → rows_of s ≡ φ (rows_of t)
unfolding rows_of φ
phi_is t s e f =
    rows_are s (rw e (xor_digits t.low t.high)) (rw f (same_digits t.low))
