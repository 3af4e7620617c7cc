-- The first window of a text, and what `open` answers.
use Rattle.std.specs.Prelude.{Ok, Err}
use mathlib.Core.Path.{◌≡◌, sym, ap, ◌∙◌}
use mathlib.Core.Bool.{Bool, true, false}
use mathlib.Core.List.{List, ◌++◌}
use Prim.Native.Nat.{ℕ, ◌-◌, ◌*◌, ◌%◌, ◌^◌, ◌≤◌, min}
use native.Mathlib.Omega.{arith}
use lib.ListN.{length, take, drop, length-append, length-drop}
use lib.Seq.{take_all, take_at}
use Rattle.calls.specs.Sealing.{opening_tag}
use Rattle.calls.proofs.ByBlocks.{opening_is, length_through}
use Rattle.suites.specs.declared.refusal.Refusal.TheVariants.{TagDiffers}
use Rattle.suites.specs.declared.suite.Suite.{Suite}
use Rattle.bits.specs.Bytes.{same_bytes}
use Rattle.text_blocks.specs.Text.{Part}
use Rattle.text_blocks.specs.Under.{enciphers, deciphers}
use Rattle.text_blocks.proofs.Chunks.{enciphers_blockwise, deciphers_blockwise}
use Rattle.opening.specs.Open.{ciphertext, opened, agrees, then_tag, Compared}
use Rattle.sealing.specs.Passes.{text_of, text_part}
use Rattle.sealing.specs.Seal.{written}
use Rattle.passes.proofs.Windows.{text, text_long, part_of_rest}

-- what the first window leaves in `work`
pub work_kept : (m : ℕ) (t w : List ℕ) → length t ≡ min m (length w) → length (t ++ drop (min m (length w)) w) ≡ length w
work_kept m t w l = length-append t (drop (min m (length w)) w) ∙ omega (arith, length-drop (min m (length w)) w)

pub work_front : (m : ℕ) (t w : List ℕ) → length t ≡ min m (length w) → take (min m (length w)) (t ++ drop (min m (length w)) w) ≡ t
work_front m t w l = take_at t (drop (min m (length w)) w) (min m (length w)) l

module _ (s : Suite) (key nonce : List ℕ) (short : length nonce ≤ 15) (c : List ℕ) (small : length c ≤ 2 ^ 24) where
  -- how much of the text the first window has
  pub window_long : (w : ℕ) → w % 16 ≡ 0 → length (text_part s key nonce c 0 (min (length c) w)) ≡ min (length c) w
  unfolding text
  window_long w whole =
      let p : Part (length c) 0 (min (length c) w) = rw (zero_left (length c)) at (part_of_rest (length c) 0 w (omega arith) small whole) in
      text_long s key nonce short c 0 (min (length c) w) p
    where
      zero_left : (m : ℕ) → m - 16 * 0 ≡ m
      zero_left m = omega arith

module _ (s : Suite) (key nonce h x out : List ℕ) (short : length nonce ≤ 15) where
  pub opened_is : opened s.cipher s.steps key nonce h x ≡ text_of s key nonce (ciphertext x)
  unfolding opened
  opened_is = opening_is (enciphers s key) (deciphers s key) nonce h (ciphertext x)

  pub opened_long : length (opened s.cipher s.steps key nonce h x) ≡ length (ciphertext x)
  opened_long =
      ap length opened_is
      ∙ length_through (deciphers s key) (enciphers s key) (deciphers_blockwise s key) (enciphers_blockwise s key) nonce short (ciphertext x)

  -- the answer and the output where the tag agrees, and where it does not
  pub with_tag : agrees s.cipher s.steps key nonce h x ≡ true
      → Compared s key nonce h x out (Ok tt) (text_of s key nonce (ciphertext x) ++ drop (length (ciphertext x)) out)
  with_tag e =
      record {
        answer = ap (λ (b : Bool). then_tag (Ok tt) b) (sym e);
        output =
            (λ j. sym opened_is j ++ drop (sym opened_long j) out)
            ∙ ap (λ (b : Bool). written (then_tag (Ok tt) b) (opened s.cipher s.steps key nonce h x) out) (sym e);
      }

  pub without_tag : agrees s.cipher s.steps key nonce h x ≡ false → Compared s key nonce h x out (Err TagDiffers) out
  without_tag e =
      record {
        answer = ap (λ (b : Bool). then_tag (Ok tt) b) (sym e);
        output = ap (λ (b : Bool). written (then_tag (Ok tt) b) (opened s.cipher s.steps key nonce h x) out) (sym e);
      }

-- the comparison that the code makes
pub agrees_is : (s : Suite) (key nonce h x : List ℕ) → 16 ≤ length x
    → same_bytes 16 (opening_tag (enciphers s key) (deciphers s key) nonce h (ciphertext x)) (take 16 (drop (length x - 16) x))
    ≡ agrees s.cipher s.steps key nonce h x
unfolding agrees
agrees_is s key nonce h x long =
    ap (same_bytes 16 (opening_tag (enciphers s key) (deciphers s key) nonce h (ciphertext x)))
    (take_all 16 (drop (length x - 16) x) (rw length-drop (omega arith)))
