-- Runs of steps under a suite that is listed, and one that is not.
use Rattle.suites.specs.Answer.{Answer}
use Rattle.std.specs.Prelude.{Ok, Err}
use mathlib.Core.Path.{◌≡◌, refl, sym, ap, ◌∙◌}
use mathlib.Core.List.{List}
use mathlib.Core.Bool.{Bool, true, false, cond, ◌&&◌, ◌||◌, and-eq-true_iff}
use Prim.Native.Nat.{ℕ, ◌+◌, ◌≤◌}
use native.Mathlib.Omega.{arith}
use borrow.Author.Tests.{eqb-true, le-leb}
use lib.Dec.{eqb, leb, lit≤}
use lib.ListN.{length}
use Rattle.rounds.specs.declared.Cipher.{Cipher}
use Rattle.rounds.specs.Cipher.{encipher, decipher}
use Rattle.blockwise.specs.Blocks.{each_block}
use Rattle.runs.specs.Run.{ahead_block, back_block, block_by, each_up_to14}
use Rattle.runs.proofs.Runs.{encipher_run, decipher_run}
use Rattle.turns.specs.Turns.{ciphered}
use Rattle.state.specs.Block.{Block}
use Rattle.blockwise.proofs.Each.{each_one, each_ext}
use Rattle.rounds.proofs.Inverse.{decipher_encipher, encipher_decipher}
use Rattle.suites.specs.declared.refusal.Refusal.TheVariants.{SuiteNotListed}
use Rattle.suites.specs.Suite.{listed, cipher_of, suite_answer}
use Rattle.cipher.specs.Entry.{enciphered, deciphered, enciphered_blocks, deciphered_blocks}

-- no suite has more than 14 steps
pub listed_steps : (cipher n : ℕ) → listed cipher n ≡ true → n ≤ 14
listed_steps cipher n e =
    either (eqb cipher 1 && four 6 8 10 12) (eqb cipher 2 && four 8 10 12 14)
    (λ h. among 6 8 10 12 (lit≤ tt) (lit≤ tt) (lit≤ tt) (lit≤ tt) ((and-eq-true_iff (eqb cipher 1) (four 6 8 10 12)).0 h).1)
    (λ h. among 8 10 12 14 (lit≤ tt) (lit≤ tt) (lit≤ tt) (lit≤ tt) ((and-eq-true_iff (eqb cipher 2) (four 8 10 12 14)).0 h).1)
    e
  where
    four : ℕ → ℕ → ℕ → ℕ → Bool
    four a b c d = eqb n a || eqb n b || eqb n c || eqb n d

    either : (a b : Bool) → (a ≡ true → n ≤ 14) → (b ≡ true → n ≤ 14) → (a || b) ≡ true → n ≤ 14
    either true b f g h = f refl
    either false b f g h = g h

    is : (k : ℕ) → k ≤ 14 → eqb n k ≡ true → n ≤ 14
    is k l h = rw (eqb-true n k h) l

    among : (a b c d : ℕ) → a ≤ 14 → b ≤ 14 → c ≤ 14 → d ≤ 14 → four a b c d ≡ true → n ≤ 14
    among a b c d ha hb hc hd =
        either (eqb n a || eqb n b || eqb n c) (eqb n d)
        (either (eqb n a || eqb n b) (eqb n c) (either (eqb n a) (eqb n b) (is a ha) (is b hb)) (is c hc))
        (is d hd)

-- Many blocks under a suite, which are done by runs; `f` is a block's run, `g` what it is by definition.
module _ (f g : Cipher → ℕ → List ℕ → List ℕ → List ℕ → List ℕ)
    (same : (c : Cipher) (n : ℕ) (key t b : List ℕ) → f c n key t b ≡ g c n key t b) (cipher n : ℕ) (key t b : List ℕ) where
  abbrev under : Bool → List ℕ
  under l = cond l (each_block (g (cipher_of cipher) n key) t b) b

  abbrev answer : Bool → Answer
  answer l = cond l (Ok tt) (Err SuiteNotListed)

  pub unlisted_run : listed cipher n ≡ false → (Err SuiteNotListed ≡ answer (listed cipher n)) × (b ≡ under (listed cipher n))
  unlisted_run e = (ap answer (sym e), ap under (sym e))

  pub listed_run : listed cipher n ≡ true → {c : Cipher} → c ≡ cipher_of cipher → {x : List ℕ} → x ≡ each_up_to14 (0 + n) (f c n key) t b
      → ((Ok tt) ≡ answer (listed cipher n)) × (x ≡ under (listed cipher n))
  listed_run e {c} ec ex =
      let few : leb (0 + n) 14 ≡ true = le-leb (0 + n) 14 (omega (arith, listed_steps cipher n e)) in
      let each : each_block (f c n key) t b ≡ each_block (g (cipher_of cipher) n key) t b =
      ap (λ (k : Cipher). each_block (f k n key) t b) ec ∙ each_ext (same (cipher_of cipher) n key) t b in
      (ap answer (sym e), ex ∙ (λ i. cond (few i) (each i) b) ∙ ap under (sym e))

-- the one way or the other
pub ciphered_is : (ahead : Bool) (k : Cipher) (n : ℕ) (key : List ℕ) → ciphered ahead k n key ≡ cond ahead (encipher k n key) (decipher k n key)
ciphered_is true k n key = refl
ciphered_is false k n key = refl

-- many blocks that are one
module _ (cipher n : ℕ) (key t b : List ℕ) (ht : length t ≡ 16) (hb : length b ≡ 16) where
  pub enciphered_one : enciphered_blocks cipher n key t b ≡ enciphered cipher n key t b
  unfolding enciphered_blocks enciphered
  enciphered_one = ap (λ (l : List ℕ). cond (listed cipher n) l b) (each_one (encipher (cipher_of cipher) n key) t b ht hb)

  pub deciphered_one : deciphered_blocks cipher n key t b ≡ deciphered cipher n key t b
  unfolding deciphered_blocks deciphered
  deciphered_one = ap (λ (l : List ℕ). cond (listed cipher n) l b) (each_one (decipher (cipher_of cipher) n key) t b ht hb)

-- one block by look-ups, the one way or the other: where the suite is not listed, and where it is
module _ (cipher n : ℕ) (key t b : List ℕ) (ht : length t ≡ 16) (hb : length b ≡ 16) where
  abbrev by_way : Bool → List ℕ
  by_way ahead = cond ahead (enciphered cipher n key t b) (deciphered cipher n key t b)

  pub stayed : (ahead : Bool) → listed cipher n ≡ false → (Err SuiteNotListed ≡ suite_answer cipher n) × (b ≡ by_way ahead)
  unfolding enciphered_blocks deciphered_blocks
  stayed true e =
      let r = unlisted_run (λ k n. ahead_block k 0 n true) encipher encipher_run cipher n key t b e in
      (r.0, r.1 ∙ enciphered_one cipher n key t b ht hb)
  stayed false e =
      let r = unlisted_run (λ k n. back_block k 0 n true) decipher decipher_run cipher n key t b e in
      (r.0, r.1 ∙ deciphered_one cipher n key t b ht hb)

  pub looked_up : (ahead : Bool) → listed cipher n ≡ true → {c : Cipher} → c ≡ cipher_of cipher
      → {x : List ℕ} → x ≡ each_up_to14 (0 + n) (block_by ahead c 0 n true key) t b
      → ((Ok tt) ≡ suite_answer cipher n) × (x ≡ by_way ahead)
  unfolding enciphered_blocks deciphered_blocks
  looked_up true e ec ex =
      let r = listed_run (λ k n. ahead_block k 0 n true) encipher encipher_run cipher n key t b e ec ex in
      (r.0, r.1 ∙ enciphered_one cipher n key t b ht hb)
  looked_up false e ec ex =
      let r = listed_run (λ k n. back_block k 0 n true) decipher decipher_run cipher n key t b e ec ex in
      (r.0, r.1 ∙ deciphered_one cipher n key t b ht hb)

-- where one function undoes another, it does so under a condition
undone : (f g : List ℕ → List ℕ) (b : List ℕ) → g (f b) ≡ b → (l : Bool) → cond l (g (cond l (f b) b)) (cond l (f b) b) ≡ b
undone f g b e true = e
undone f g b e false = refl

-- What an entry point gives is undone by the other, under every pair of bytes as suite: where it is not listed both leave the
-- block as it is.
module _ (cipher n : ℕ) (key t b : List ℕ) (k : Block key) (h : Block t) (m : Block b) where
  pub deciphered_enciphered : deciphered cipher n key t (enciphered cipher n key t b) ≡ b
  unfolding enciphered deciphered
  deciphered_enciphered =
      undone (encipher (cipher_of cipher) n key t) (decipher (cipher_of cipher) n key t) b
      (decipher_encipher (cipher_of cipher) n key t k h b m) (listed cipher n)

  pub enciphered_deciphered : enciphered cipher n key t (deciphered cipher n key t b) ≡ b
  unfolding enciphered deciphered
  enciphered_deciphered =
      undone (decipher (cipher_of cipher) n key t) (encipher (cipher_of cipher) n key t) b
      (encipher_decipher (cipher_of cipher) n key t k h b m) (listed cipher n)
