-- Many blocks at once under tweaks that are strung.
use mathlib.Core.Path.{◌≡◌, sym, ap, ◌∙◌}
use mathlib.Core.Bool.{Bool, true, false}
use mathlib.Core.List.{List, ◌++◌, append_assoc}
use Prim.Native.Nat.{ℕ, ◌+◌, ◌*◌, ◌/◌, ◌≤◌, min}
use native.Mathlib.Nat.{le_of_eq}
use native.Mathlib.Omega.{arith}
use lib.ListN.{length, take, drop, length-append, length-drop}
use lib.Seq.{take_at, drop_at, drop-drop}
use Rattle.suites.specs.Suite.{cipher_of}
use Rattle.suites.specs.declared.suite.Suite.{Suite}
use Rattle.blockwise.specs.Blocks.{block, strung, each_of, each_block}
use Rattle.blockwise.proofs.Each.{Blockwise, strung_whole, strung_add, block_long, block_later, block_of_strung, strung_ext}
use Rattle.runs.proofs.Runs.{ahead_blockwise, back_blockwise, encipher_run, decipher_run}
use Rattle.text_blocks.specs.Under.{enciphers, deciphers, either}

pub strung_front : (k : ℕ) (tw : ℕ → List ℕ) → ((i : ℕ) → length (tw i) ≡ 16) → (rest : List ℕ) → length (take (16 * k) (strung k tw ++ rest)) ≡ 16 * k
strung_front k tw long rest =
    let l : length (strung k tw) ≡ 16 * k = strung_whole k tw (λ i h. long i) in
    ap length (take_at (strung k tw) rest (16 * k) l) ∙ l

module _ (k : ℕ) (tw : ℕ → List ℕ) (long : (i : ℕ) → length (tw i) ≡ 16) (rest b : List ℕ) (room : 16 * k ≤ length b) where
  -- every block under its own tweak
  pub each_strung : (f : List ℕ → List ℕ → List ℕ)
      → each_block f (take (16 * k) (strung k tw ++ rest)) b ≡ strung k (λ i. f (tw i) (block b i)) ++ drop (16 * k) b
  unfolding each_block each_of
  each_strung f =
      let t = strung k tw in
      let l : length t ≡ 16 * k = strung_whole k tw (λ i h. long i) in
      let n : min (length t) (length b) / 16 ≡ k = omega arith in
      ap (λ (x : List ℕ). each_block f x b) (take_at t rest (16 * k) l)
      ∙ ap (λ (j : ℕ). each_of f j t b) n
      ∙ ap (λ (x : List ℕ). x ++ drop (16 * k) b)
      (strung_ext k (λ i. f (block t i) (block b i)) (λ i. f (tw i) (block b i))
      (λ i h. ap (λ (x : List ℕ). f x (block b i)) (block_of_strung k tw (λ j l. long j) (λ j l. le_of_eq (long j)) i h)))

-- the ciphers make a block of two
pub enciphers_blockwise : (s : Suite) (key : List ℕ) → Blockwise (enciphers s key)
enciphers_blockwise s key =
    let c = cipher_of s.cipher in
    let n = s.steps in
    record { long = λ t b ht hb. ap length (sym (encipher_run c n key t b)) ∙ (ahead_blockwise c 0 n true key).long t b ht hb }

pub deciphers_blockwise : (s : Suite) (key : List ℕ) → Blockwise (deciphers s key)
deciphers_blockwise s key =
    let c = cipher_of s.cipher in
    let n = s.steps in
    record { long = λ t b ht hb. ap length (sym (decipher_run c n key t b)) ∙ (back_blockwise c 0 n true key).long t b ht hb }

pub either_blockwise : (ahead : Bool) (s : Suite) (key : List ℕ) → Blockwise (either ahead s key)
either_blockwise true s key = enciphers_blockwise s key
either_blockwise false s key = deciphers_blockwise s key

-- a loop has done n blocks of s, each by g of its number, and does k more in the part that is left
module _ (g : ℕ → List ℕ → List ℕ) (long : (i : ℕ) (b : List ℕ) → length b ≡ 16 → length (g i b) ≡ 16) (s : List ℕ) (n k : ℕ) (room : 16 * n ≤ length s) where
  done-long : length (strung n (λ i. g i (block s i))) ≡ 16 * n
  done-long = strung_whole n (λ i. g i (block s i)) (λ i h. long i (block s i) (block_long s i (omega arith)))

  pub left_is : drop (16 * n) (strung n (λ i. g i (block s i)) ++ drop (16 * n) s) ≡ drop (16 * n) s
  left_is = drop_at (strung n (λ i. g i (block s i))) (drop (16 * n) s) (16 * n) done-long

  pub done_is : take (16 * n) (strung n (λ i. g i (block s i)) ++ drop (16 * n) s) ≡ strung n (λ i. g i (block s i))
  done_is = take_at (strung n (λ i. g i (block s i))) (drop (16 * n) s) (16 * n) done-long

  pub length_done : length (strung n (λ i. g i (block s i)) ++ drop (16 * n) s) ≡ length s
  length_done = length-append (strung n (λ i. g i (block s i))) (drop (16 * n) s) ∙ omega (arith, done-long, length-drop (16 * n) s)

  pub more_done : strung n (λ i. g i (block s i)) ++ (strung k (λ i. g (n + i) (block (drop (16 * n) s) i)) ++ drop (16 * k) (drop (16 * n) s))
      ≡ strung (n + k) (λ i. g i (block s i)) ++ drop (16 * (n + k)) s
  more_done =
      let at : 16 * n + 16 * k ≡ 16 * (n + k) = omega arith in
      let behind = drop-drop (16 * k) (16 * n) s ∙ ap (λ (m : ℕ). drop m s) at in
      (λ j. strung n (λ i. g i (block s i)) ++ (strung k (λ i. g (n + i) (block_later n i s j)) ++ behind j))
      ∙ sym (append_assoc (strung n (λ i. g i (block s i))) (strung k (λ i. g (n + i) (block s (n + i)))) (drop (16 * (n + k)) s))
      ∙ ap (λ (x : List ℕ). x ++ drop (16 * (n + k)) s) (sym (strung_add n k (λ i. g i (block s i))))
