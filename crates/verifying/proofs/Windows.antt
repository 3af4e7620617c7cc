-- The first window is the start of the text.
use Rattle.std.specs.Prelude.{Ok}
use mathlib.Core.Path.{◌≡◌, refl, sym, ap, ◌∙◌}
use mathlib.Core.List.{List, [], ◌∷◌, ◌++◌}
use Prim.Native.Nat.{ℕ, zero, suc, ◌-◌, ◌*◌, ◌/◌, ◌%◌, ◌^◌, ◌≤◌, ◌<◌, min}
use native.Mathlib.Decide.{ℕ_discrete}
use native.Mathlib.Omega.{arith}
use lib.ListN.{length, get_or, take, drop, replicate, drop_of_length-le}
use lib.Seq.{get_or-take, take_all, take-length, take_at}
use Rattle.bits.proofs.Fronts.{drop_zeros}
use Rattle.bits.proofs.Lists.{get_or_zeros}
use Rattle.calls.specs.Pieces.{through}
use Rattle.calls.proofs.ByBlocks.{length_through}
use Rattle.suites.specs.declared.suite.Suite.{Suite}
use Rattle.text_blocks.specs.Under.{enciphers, deciphers}
use Rattle.text_blocks.proofs.Chunks.{enciphers_blockwise, deciphers_blockwise}
use Rattle.sealing.specs.Passes.{text_of, text_part, text_in}
use Rattle.opening.proofs.Opened.{window_long}
use Rattle.text_blocks.proofs.Parts.{through_split}
use Rattle.verifying.specs.Within.{held_in}

-- no more can be left out than there is
drop_least : (m : ℕ) (w : List ℕ) → drop (min m (length w)) w ≡ drop m w
drop_least m w = by (ℕ_discrete (min m (length w)) m)
  where
    by : Dec (min m (length w) ≡ m) → drop (min m (length w)) w ≡ drop m w
    by (yes e) = ap (λ (n : ℕ). drop n w) e
    by (no d) = drop_of_length-le w {i = min m (length w)} (omega arith) ∙ sym (drop_of_length-le w {i = m} (omega arith))

module _ (s : Suite) (key nonce : List ℕ) (short : length nonce ≤ 15) (c : List ℕ) (small : length c ≤ 2 ^ 24) where
  -- all of the text
  all : List ℕ
  all = text_of s key nonce c

  all-long : length all ≡ length c
  unfolding all
  all-long = length_through (deciphers s key) (enciphers s key) (deciphers_blockwise s key) (enciphers_blockwise s key) nonce short c

  -- the first window is the start of the text
  pub window_front : (w : ℕ) → w % 16 ≡ 0
      → text_part s key nonce c 0 (min (length c) w) ≡ take w (text_of s key nonce c)
  unfolding all
  window_front w whole = by (ℕ_discrete (min (length c) w) (length c))
    where
      front : List ℕ
      front = text_part s key nonce c 0 (min (length c) w)

      by : Dec (min (length c) w ≡ length c) → front ≡ take w all
      by (yes e) =
          ap (through (deciphers s key) (enciphers s key) nonce (length c) 0) (ap (λ (n : ℕ). take n c) e ∙ take-length c)
          ∙ sym (take_all w all (omega (arith, all-long)))
      by (no d) =
          let n : 16 * (w / 16) ≡ min (length c) w = omega arith in
          let rest = through (deciphers s key) (enciphers s key) nonce (length c) (w / 16) (drop (16 * (w / 16)) c) in
          sym (take_at front rest w (window_long s key nonce short c small w whole ∙ omega arith))
          ∙ ap (λ (k : ℕ). take w (text_part s key nonce c 0 k ++ rest)) (sym n)
          ∙ ap (take w) (sym (through_split (deciphers s key) (enciphers s key) nonce (length c) c (w / 16) (omega arith)))

  pub window_held : (w : List ℕ) → length w % 16 ≡ 0
      → text_in s key nonce c w ≡ held_in (Ok tt) (text_of s key nonce c) w
  unfolding all
  window_held w whole = λ i. window_front (length w) whole i ++ (drop_least (length c) w ∙ ap (λ (n : ℕ). drop n w) (sym all-long)) i

-- zeros behind a string do not show
zeros_behind : (x : List ℕ) (k w i : ℕ) → k ≤ w → get_or (x ++ drop k (replicate w 0)) i 0 ≡ get_or x i 0
zeros_behind [] k w i h = ap (λ (l : List ℕ). get_or l i 0) (drop_zeros k w h) ∙ get_or_zeros (w - k) i
zeros_behind (a ∷ x) k w zero h = refl
zeros_behind (a ∷ x) k w (suc i) h = zeros_behind x k w i h

-- the first bytes of the text, as the first window leaves them among zeros
module _ (s : Suite) (key nonce : List ℕ) (short : length nonce ≤ 15) (c : List ℕ) (small : length c ≤ 2 ^ 24) (w : ℕ) (whole : w % 16 ≡ 0) where
  pub window_byte : (i : ℕ) → i < w
      → get_or (text_part s key nonce c 0 (min (length c) w) ++ drop (min (length c) w) (replicate w 0)) i 0 ≡ get_or (text_of s key nonce c) i 0
  window_byte i h =
      zeros_behind (text_part s key nonce c 0 (min (length c) w)) (min (length c) w) w i (omega arith)
      ∙ ap (λ (l : List ℕ). get_or l i 0) (window_front s key nonce short c small w whole)
      ∙ get_or-take w (text_of s key nonce c) i 0 h
