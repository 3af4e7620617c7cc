-- The 64 blocks of a group: each goes through the cipher under its own tweak.
use mathlib.Core.Path.{◌≡◌, ap, fun_ext, ◌∙◌}
use mathlib.Core.Bool.{Bool, cond}
use mathlib.Core.List.{List, []}
use Prim.Native.Nat.{ℕ, ◌+◌, ◌*◌, ◌%◌, ◌<◌}
use native.Mathlib.Decide.{ℕ_discrete}
use native.Mathlib.Omega.{arith}
use lib.Dec.{eqb}
use lib.ListN.{length, get_or, set, take, drop, length-set}
use lib.Seq.{get_or-set_same, get_or-set_other, paste}
use Rattle.state.specs.Block.{rows, bytes}
use Rattle.state.specs.Rows.{add_rows}
use Rattle.blockwise.specs.Blocks.{strung}
use Rattle.blockwise.proofs.Each.{strung_ext}
use Rattle.rounds.specs.declared.Cipher.{Cipher}
use Rattle.rounds.specs.declared.Cipher.TheVariants.{Scream, IScream}
use Rattle.rounds.specs.Cipher.{parts, tweakeys}
use Rattle.rounds.specs.Tweakey.{φs, rotated, scream_tweakey, iscream_tweakey}
use Rattle.turns.specs.Turns.{ciphered, turns}
use Rattle.turns.proofs.Whole.{all_turns}
use Rattle.planes.specs.Planes.{lane, Goes}
use Rattle.planes.specs.Loaded.{Loaded}
use Rattle.plane_tweakeys.specs.Shared.{Shared}
use Rattle.plane_steps.specs.Picked.{tweakeys_of}
use Rattle.groups.specs.Group.{few_at}

-- three arrays of planes, of which the first k have the tweakeys of the tweaks in w
pub record Tweakeys (c : Cipher) (shared w : List (List ℕ)) (k : ℕ) (t : List (List (List ℕ))) : Type 0 where
  pub long : length t ≡ 3
  pub each : (s : ℕ) → s < k → Goes (λ b m. (parts c).tweakey (lane shared b) m s) w (get_or t s [])

pub tweakeys_none : (c : Cipher) (shared w : List (List ℕ)) (t : List (List (List ℕ))) → length t ≡ 3 → Tweakeys c shared w 0 t
tweakeys_none c shared w t e = record { long = e; each = λ s h. absurd (omega arith) }

pub tweakeys_more : {c : Cipher} {shared w : List (List ℕ)} {k : ℕ} {t : List (List (List ℕ))} → Tweakeys c shared w k t → k < 3
    → (y : List (List ℕ)) → Goes (λ b m. (parts c).tweakey (lane shared b) m k) w y → Tweakeys c shared w (k + 1) (set t k y)
tweakeys_more {c} {shared} {w} {k} {t} f h y g = record { long = length-set t k y ∙ f.long; each = λ s hs. one s hs (ℕ_discrete s k) }
  where
    one : (s : ℕ) → s < k + 1 → Dec (s ≡ k) → Goes (λ b m. (parts c).tweakey (lane shared b) m s) w (get_or (set t k y) s [])
    one s hs (yes q) = rw q (rw (get_or-set_same t k y [] (rw f.long h)) g)
    one s hs (no n) = rw (get_or-set_other t k s y [] n) (f.each s (omega arith))

-- three arrays of planes have the tweakeys of state b
tweakeys_held : (c : Cipher) (t : List (List (List ℕ))) (b : ℕ) (key tweak : List ℕ)
    → ((s : ℕ) → s < 3 → lane (get_or t s []) b ≡ (parts c).tweakey key tweak s)
    → (σ : ℕ) → tweakeys_of c t b σ ≡ (parts c).tweakey key tweak σ
unfolding tweakeys_of scream_tweakey iscream_tweakey
tweakeys_held Scream t b key tweak h σ =
    let e : σ % 3 % 3 ≡ σ % 3 = omega arith in
    h (σ % 3) (omega arith) ∙ ap (λ (n : ℕ). add_rows key (φs n tweak)) e
tweakeys_held IScream t b key tweak h σ =
    let e : σ % 2 % 2 ≡ σ % 2 = omega arith in
    h (σ % 2) (omega arith) ∙ ap (λ (n : ℕ). cond (eqb n 0) (add_rows key tweak) (rotated tweak)) e

-- the blocks that come out of all turns, put at their place
pub group_is : (ahead : Bool) (k : Cipher) (n : ℕ) (key : List ℕ) (at : ℕ) (tweaks blocks : List ℕ) {shared w x y : List (List ℕ)} {t : List (List (List ℕ))}
    → Shared (rows key) shared → Loaded tweaks at w → Tweakeys k shared w 3 t → Loaded blocks at x
    → Goes (λ b. turns ahead (parts k) (tweakeys_of k t b) n n) x y
    → paste blocks at (strung 64 (λ b. bytes (lane y b))) 1024 ≡ few_at (ciphered ahead k n key) 64 at tweaks blocks
unfolding few_at
group_is ahead k n key at tweaks blocks {shared} {w} {x} {y} {t} s l p m g =
    ap (λ (z : List ℕ). paste blocks at z 1024)
    (strung_ext 64 (λ b. bytes (lane y b)) (λ b. ciphered ahead k n key (tweak b) (take 16 (drop (at + 16 * b) blocks))) one)
  where
    tweak : ℕ → List ℕ
    tweak b = take 16 (drop (at + 16 * b) tweaks)

    one : (b : ℕ) → b < 64 → bytes (lane y b) ≡ ciphered ahead k n key (tweak b) (take 16 (drop (at + 16 * b) blocks))
    one b h =
        let tk : tweakeys_of k t b ≡ tweakeys k key (tweak b) =
        fun_ext
        (λ σ.
        tweakeys_held k t b (lane shared b) (lane w b) (λ s hs. (p.each s hs).lanes b h) σ
        ∙ (λ i. (parts k).tweakey (s.lanes b h i) (l.lanes b h i) σ)) in
        ap bytes (g.lanes b h)
        ∙ (λ i. bytes (turns ahead (parts k) (tk i) n n (m.lanes b h i)))
        ∙ all_turns ahead k n key (tweak b) (take 16 (drop (at + 16 * b) blocks))
