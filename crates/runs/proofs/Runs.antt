-- Runs of steps, and the cipher and its step as runs.
use mathlib.Core.Path.{◌≡◌, refl, sym, ap, fun_ext, ◌∙◌}
use mathlib.Core.List.{List}
use mathlib.Core.Bool.{Bool, true, false, cond}
use Prim.Native.Nat.{ℕ, zero, suc, ◌+◌, ◌*◌}
use native.Mathlib.Nat.{add-zero}
use native.Mathlib.Omega.{arith}
use lib.Dec.{leb, ltb}
use lib.ListN.{length}
use Rattle.sbox.specs.Sbox
use Rattle.rounds.specs.declared.Cipher.{Cipher}
use Rattle.tweakey.specs.declared.Schedule.{Schedule}
use Rattle.tweakey.specs.Schedule.{state_at, tweakeys_in}
use Rattle.tweakey.proofs.Tweakeys.{tweakeys_in_lem}
use Rattle.state.specs.declared.State.{State}
use Rattle.state.specs.State.{rows_of}
use Rattle.state.specs.Block.{rows, bytes}
use Rattle.state.specs.Rows.{add_rows}
use Rattle.rounds.specs.Cipher.{Parts, parts, unround, step, unstep, steps, unsteps, tweakeys, encipher, decipher, stepped, unstepped}
use Rattle.runs.specs.Run.{ahead_block, back_block, block_by, each_up_to14}
use Rattle.blockwise.proofs.Each.{Blockwise, each_one}
use Rattle.state.proofs.Trips.{rows_long, bytes_long}

-- a run of a block, from what the code has: the rows of key, tweak and block, a schedule, and its first tweakey
module _ (c : Cipher) (s n : ℕ) (wanted : Bool) (key tweak b : List ℕ) (h : Schedule) {k t x : List ℕ} {first : State}
    (made : (σ : ℕ) → tweakeys_in c h σ ≡ (parts c).tweakey k t σ) (ek : k ≡ rows key) (et : t ≡ rows tweak)
    (ef : first ≡ state_at c h 0) (ex : x ≡ rows b) where
  tk : tweakeys_in c h ≡ tweakeys c key tweak
  tk = fun_ext (λ σ. made σ ∙ (λ i. (parts c).tweakey (ek i) (et i) σ))

  tk-first : rows_of first ≡ tweakeys c key tweak 0
  tk-first = ap rows_of ef ∙ sym (tweakeys_in_lem c h 0) ∙ (λ i. tk i 0)

  pub ahead_is : {y z : List ℕ} → y ≡ cond wanted (add_rows x (rows_of first)) x → z ≡ steps (parts c) (tweakeys_in c h) s n y
      → bytes z ≡ ahead_block c s n wanted key tweak b
  unfolding ahead_block
  ahead_is ey ez =
      let e = ey ∙ (λ i. cond wanted (add_rows (ex i) (tk-first i)) (ex i)) in
      ap bytes ez ∙ (λ i. bytes (steps (parts c) (tk i) s n (e i)))

  pub back_is : {y z : List ℕ} → y ≡ unsteps (parts c) (tweakeys_in c h) s n x → z ≡ cond wanted (add_rows y (rows_of first)) y
      → bytes z ≡ back_block c s n wanted key tweak b
  unfolding back_block
  back_is ey ez =
      let e = ey ∙ (λ i. unsteps (parts c) (tk i) s n (ex i)) in
      ap bytes ez ∙ (λ i. bytes (cond wanted (add_rows (e i) (tk-first i)) (e i)))

-- from the start
pub encipher_run : (c : Cipher) (n : ℕ) (key tweak b : List ℕ) → ahead_block c 0 n true key tweak b ≡ encipher c n key tweak b
unfolding ahead_block encipher
encipher_run c n key tweak b = refl

pub decipher_run : (c : Cipher) (n : ℕ) (key tweak b : List ℕ) → back_block c 0 n true key tweak b ≡ decipher c n key tweak b
unfolding back_block decipher
decipher_run c n key tweak b = refl

-- one step
step_run : (c : Cipher) (s : ℕ) (key tweak b : List ℕ) → ahead_block c s 1 false key tweak b ≡ bytes (step (parts c) (tweakeys c key tweak) s (rows b))
unfolding ahead_block steps
step_run c s key tweak b = ap (λ (k : ℕ). bytes (step (parts c) (tweakeys c key tweak) k (rows b))) (add-zero s)

unstep_run : (c : Cipher) (s : ℕ) (key tweak b : List ℕ) → back_block c s 1 false key tweak b ≡ bytes (unstep (parts c) (tweakeys c key tweak) s (rows b))
unfolding back_block unsteps
unstep_run c s key tweak b = ap (λ (k : ℕ). bytes (unstep (parts c) (tweakeys c key tweak) k (rows b))) (add-zero s)

-- sixteen bytes in, sixteen bytes out
sixteen : (w : List ℕ) → length w ≡ 8 → length (bytes w) ≡ 16
sixteen w e = bytes_long w ∙ ap (λ (n : ℕ). 2 * n) e

add_long : (x k : List ℕ) → length (add_rows x k) ≡ 8
unfolding add_rows
add_long x k = refl

cond_long : (b : Bool) (x y : List ℕ) → length x ≡ 8 → length y ≡ 8 → length (cond b x y) ≡ 8
cond_long true x y hx hy = hx
cond_long false x y hx hy = hy

steps_long : (p : Parts) (tk : ℕ → List ℕ) (s n : ℕ) (x : List ℕ) → length x ≡ 8 → length (steps p tk s n x) ≡ 8
unfolding steps step add_rows
steps_long p tk s zero x h = h
steps_long p tk s (suc n) x h = refl

unsteps_long : (p : Parts) (tk : ℕ → List ℕ) (s n : ℕ) (y : List ℕ) → length y ≡ 8 → length (unsteps p tk s n y) ≡ 8
unfolding unsteps unstep unround Sbox.layer
unsteps_long p tk s zero y h = h
unsteps_long p tk s (suc n) y h = unsteps_long p tk s n (unstep p tk (s + n) y) refl

pub ahead_blockwise : (c : Cipher) (s n : ℕ) (first : Bool) (key : List ℕ) → Blockwise (ahead_block c s n first key)
unfolding ahead_block
ahead_blockwise c s n first key =
    record {
      long = λ t b ht hb.
          let tk : ℕ → List ℕ = tweakeys c key t in
          let x : List ℕ = cond first (add_rows (rows b) (tk 0)) (rows b) in
          sixteen (steps (parts c) tk s n x)
          (steps_long (parts c) tk s n x (cond_long first (add_rows (rows b) (tk 0)) (rows b) (add_long (rows b) (tk 0)) (rows_long 8 b hb)));
    }

pub back_blockwise : (c : Cipher) (s n : ℕ) (last : Bool) (key : List ℕ) → Blockwise (back_block c s n last key)
unfolding back_block
back_blockwise c s n last key =
    record {
      long = λ t b ht hb.
          let tk : ℕ → List ℕ = tweakeys c key t in
          let y : List ℕ = unsteps (parts c) tk s n (rows b) in
          sixteen (cond last (add_rows y (tk 0)) y)
          (cond_long last (add_rows y (tk 0)) y (add_long y (tk 0)) (unsteps_long (parts c) tk s n (rows b) (rows_long 8 b hb)));
    }

pub blockwise_by : (ahead : Bool) (c : Cipher) (s n : ℕ) (wanted : Bool) (key : List ℕ) → Blockwise (block_by ahead c s n wanted key)
blockwise_by true = ahead_blockwise
blockwise_by false = back_blockwise

-- the limit of a run of one is that of a step
limit_of_one : (s : ℕ) → leb (s + 1) 14 ≡ ltb s 14
limit_of_one s =
    let e : s + 1 ≡ suc s = omega arith in
    ap (λ (k : ℕ). leb k 14) e

module _ (s : ℕ) (t b : List ℕ) (ht : length t ≡ 16) (hb : length b ≡ 16) where
  run-of-one : (f : List ℕ → List ℕ → List ℕ) {x : List ℕ} → f t b ≡ x → each_up_to14 (s + 1) f t b ≡ cond (ltb s 14) x b
  run-of-one f e = λ i. cond (limit_of_one s i) ((each_one f t b ht hb ∙ e) i) b

  pub stepped_run : (c : Cipher) (key : List ℕ) → each_up_to14 (s + 1) (ahead_block c s 1 false key) t b ≡ stepped c s key t b
  unfolding stepped
  stepped_run c key = run-of-one (ahead_block c s 1 false key) (step_run c s key t b)

  pub unstepped_run : (c : Cipher) (key : List ℕ) → each_up_to14 (s + 1) (back_block c s 1 false key) t b ≡ unstepped c s key t b
  unfolding unstepped
  unstepped_run c key = run-of-one (back_block c s 1 false key) (unstep_run c s key t b)
