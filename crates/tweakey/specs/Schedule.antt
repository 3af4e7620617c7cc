-- The tweakeys as the code holds them: three states, of which iScream uses two. No entry point's contract cites this file.
use Rattle.std.specs.Prelude.{◌≡◌, List, ℕ, zero, suc, ◌%◌}
use Rattle.state.specs.declared.State.{State}
use Rattle.rounds.specs.declared.Cipher.{Cipher}
use Rattle.rounds.specs.declared.Cipher.TheVariants.{Scream, IScream}
use Rattle.tweakey.specs.declared.Schedule.{Schedule}
use Rattle.state.specs.State.{rows_of}
use Rattle.rounds.specs.Cipher.{parts}

-- the schedule of a key and a tweak, both as rows: TK(0), TK(1) and TK(2), which under iScream is TK(0) again
pub record Scheduled (c : Cipher) (key tweak : List ℕ) (h : Schedule) : Type 0 where
  pub first : rows_of h.first ≡ (parts c).tweakey key tweak 0
  pub second : rows_of h.second ≡ (parts c).tweakey key tweak 1
  pub third : rows_of h.third ≡ (parts c).tweakey key tweak 2

abbrev pub held : Schedule → ℕ → State
held h zero = h.first
held h (suc zero) = h.second
held h (suc (suc n)) = h.third

-- the state that is added after step σ
abbrev pub state_at : Cipher → Schedule → ℕ → State
state_at Scream h σ = held h (σ % 3)
state_at IScream h σ = held h (σ % 2)

-- its rows
unfoldable pub tweakeys_in : Cipher → Schedule → ℕ → List ℕ
tweakeys_in c h σ = rows_of (state_at c h σ)
