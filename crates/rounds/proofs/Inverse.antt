-- The theorem of the ciphers: deciphering undoes enciphering, and enciphering deciphering.
use mathlib.Core.Path.{◌≡◌, refl, ap, subst, ◌∙◌}
use mathlib.Core.List.{List, [], ◌∷◌}
use mathlib.Core.Bool.{Bool, true, false, cond}
use Prim.Native.Nat.{ℕ, zero, suc, ◌%◌, ◌^◌, ◌<◌}
use native.Mathlib.Omega.{arith}
use lib.Bits.{bit_xor, xor_lt}
use lib.Dec.{eqb}
use lib.ListN.{get_or}
use lib.Pow.{pow_pos}
use Rattle.bits.proofs.Lists.{tab_get_or}
use Rattle.state.specs.Rows.{Rows, add_rows}
use Rattle.lbox.specs.Lbox
use Rattle.sbox.specs.Sbox
use Rattle.state.proofs.Rows.{tab_rows}
use Rattle.sbox.proofs.Inverses as sboxes
use Rattle.lbox.proofs.Inverses as lboxes
use Rattle.rounds.specs.declared.Cipher.{Cipher}
use Rattle.rounds.specs.declared.Cipher.TheVariants.{Scream, IScream}
use Rattle.state.specs.Block.{Block, rows, bytes}
use Rattle.state.proofs.Trips.{rows_bytes, bytes_rows, block_rows, rows_block}
use Rattle.rounds.specs.Tweakey.{φ, φs, rotated, rotated_row, scream_tweakey, iscream_tweakey}
use Rattle.rounds.specs.Cipher.{parts, encipher, decipher, tweakeys, steps, unsteps}
use Rattle.rounds.proofs.Undo.{Undo, then, Sound, sbox_undo, lbox_undo, add_undo, add_rows_lem, steps_undo}

pub sound : (c : Cipher) → Sound (parts c)
unfolding Lbox.scream Lbox.scream_inverse Lbox.iscream
sound Scream =
    record {
      sboxes = sbox_undo Sbox.scream Sbox.scream_inverse sboxes.scream_sbox_back sboxes.scream_sbox_forth;
      lboxes = lbox_undo Lbox.scream Lbox.scream_inverse refl refl lboxes.scream_lbox_back lboxes.scream_lbox_forth;
    }
sound IScream =
    record {
      sboxes = sbox_undo Sbox.iscream Sbox.iscream sboxes.iscream_sbox_back sboxes.iscream_sbox_back;
      lboxes = lbox_undo Lbox.iscream Lbox.iscream refl refl lboxes.iscream_lbox_back lboxes.iscream_lbox_back;
    }

-- the tweakeys are states
eight_rows : {a b c d e f g h : ℕ} → a < 2 ^ 16 → b < 2 ^ 16 → c < 2 ^ 16 → d < 2 ^ 16 → e < 2 ^ 16 → f < 2 ^ 16 → g < 2 ^ 16 → h < 2 ^ 16
    → Rows (a ∷ b ∷ c ∷ d ∷ e ∷ f ∷ g ∷ h ∷ [])
eight_rows {a} {b} {c} {d} {e} {f} {g} {h} ha hb hc hd he hf hg hh = record { long = refl; words = at }
  where
    at : (i : ℕ) → get_or (a ∷ b ∷ c ∷ d ∷ e ∷ f ∷ g ∷ h ∷ []) i 0 < 2 ^ 16
    at zero = ha
    at (suc zero) = hb
    at (suc (suc zero)) = hc
    at (suc (suc (suc zero))) = hd
    at (suc (suc (suc (suc zero)))) = he
    at (suc (suc (suc (suc (suc zero))))) = hf
    at (suc (suc (suc (suc (suc (suc zero)))))) = hg
    at (suc (suc (suc (suc (suc (suc (suc zero))))))) = hh
    at (suc (suc (suc (suc (suc (suc (suc (suc i)))))))) = pow_pos 16

φ_rows : (t : List ℕ) → Rows t → Rows (φ t)
unfolding φ
φ_rows t r =
    let w = r.words in
    let half : (i j : ℕ) → bit_xor (get_or t i 0) (get_or t j 0) < 2 ^ 16 = λ i j. xor_lt 16 (get_or t i 0) (get_or t j 0) (w i) (w j) in
    subst (λ (l : List ℕ). Rows (φ l)) (tab_get_or 8 t r.long)
    (eight_rows (half 0 4) (half 1 5) (half 2 6) (half 3 7) (w 0) (w 1) (w 2) (w 3))

φs_rows : (n : ℕ) (t : List ℕ) → Rows t → Rows (φs n t)
φs_rows zero t r = r
φs_rows (suc n) t r = φ_rows (φs n t) (φs_rows n t r)

rotated_rows : (t : List ℕ) → Rows t → Rows (rotated t)
unfolding rotated
rotated_rows t r = tab_rows (λ i. rotated_row (get_or t i 0)) (λ i. fits (get_or t i 0) (r.words i))
  where
    fits : (x : ℕ) → x < 2 ^ 16 → rotated_row x < 2 ^ 16
    fits x h = omega arith

pub tweakey_rows : (c : Cipher) (key tweak : List ℕ) → Rows key → Rows tweak → (σ : ℕ) → Rows ((parts c).tweakey key tweak σ)
unfolding scream_tweakey iscream_tweakey
tweakey_rows Scream key tweak k t σ = add_rows_lem key (φs (σ % 3) tweak) k (φs_rows (σ % 3) tweak t)
tweakey_rows IScream key tweak k t σ = either (eqb (σ % 2) 0)
  where
    either : (b : Bool) → Rows (cond b (add_rows key tweak) (rotated tweak))
    either true = add_rows_lem key tweak k t
    either false = rotated_rows tweak t

module _ (c : Cipher) (n : ℕ) (key tweak : List ℕ) (k : Block key) (t : Block tweak) where
  states : (σ : ℕ) → Rows (tweakeys c key tweak σ)
  states = tweakey_rows c (rows key) (rows tweak) (block_rows key k) (block_rows tweak t)

  whole : Undo (λ x. steps (parts c) (tweakeys c key tweak) 0 n (add_rows x (tweakeys c key tweak 0)))
      (λ y. add_rows (unsteps (parts c) (tweakeys c key tweak) 0 n y) (tweakeys c key tweak 0))
  whole = then (add_undo (tweakeys c key tweak 0) (states 0)) (steps_undo (parts c) (sound c) (tweakeys c key tweak) states 0 n)

  -- a block is enciphered to a block, and deciphered to one
  pub encipher_block : (b : List ℕ) → Block b → Block (encipher c n key tweak b)
  unfolding encipher
  encipher_block b h =
      rows_block (steps (parts c) (tweakeys c key tweak) 0 n (add_rows (rows b) (tweakeys c key tweak 0)))
      (whole.keeps (rows b) (block_rows b h))

  pub decipher_block : (b : List ℕ) → Block b → Block (decipher c n key tweak b)
  unfolding decipher
  decipher_block b h =
      rows_block (add_rows (unsteps (parts c) (tweakeys c key tweak) 0 n (rows b)) (tweakeys c key tweak 0))
      (whole.kept (rows b) (block_rows b h))

  -- Deciphering undoes enciphering, and enciphering deciphering: for both ciphers and every number of steps.
  pub decipher_encipher : (b : List ℕ) → Block b → decipher c n key tweak (encipher c n key tweak b) ≡ b
  unfolding encipher decipher
  decipher_encipher b h =
      let x : List ℕ = steps (parts c) (tweakeys c key tweak) 0 n (add_rows (rows b) (tweakeys c key tweak 0)) in
      let r : Rows x = whole.keeps (rows b) (block_rows b h) in
      ap (λ (y : List ℕ). bytes (add_rows (unsteps (parts c) (tweakeys c key tweak) 0 n y) (tweakeys c key tweak 0))) (rows_bytes x r.words)
      ∙ ap bytes (whole.undone (rows b) (block_rows b h))
      ∙ bytes_rows 8 b h.long h.fit

  pub encipher_decipher : (b : List ℕ) → Block b → encipher c n key tweak (decipher c n key tweak b) ≡ b
  unfolding encipher decipher
  encipher_decipher b h =
      let y : List ℕ = add_rows (unsteps (parts c) (tweakeys c key tweak) 0 n (rows b)) (tweakeys c key tweak 0) in
      let r : Rows y = whole.kept (rows b) (block_rows b h) in
      ap (λ (x : List ℕ). bytes (steps (parts c) (tweakeys c key tweak) 0 n (add_rows x (tweakeys c key tweak 0)))) (rows_bytes y r.words)
      ∙ ap bytes (whole.redone (rows b) (block_rows b h))
      ∙ bytes_rows 8 b h.long h.fit
