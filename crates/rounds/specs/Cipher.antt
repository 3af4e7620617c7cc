-- The tweakable block ciphers Scream and iScream and their inverses: Algorithm 1 of the paper (the CAESAR submission of
-- SCREAM and iSCREAM, version 1).
use Rattle.std.specs.Prelude.{cond, List, ℕ, zero, suc, ◌+◌, ◌*◌, ◌%◌, ltb, get_or, set}
use Rattle.std.specs.Int.Bits.{bit_xor}
use Rattle.sbox.specs.Sbox
use Rattle.lbox.specs.Lbox
use Rattle.rounds.specs.declared.Cipher.{Cipher}
use Rattle.rounds.specs.declared.Cipher.TheVariants.{Scream, IScream}
use Rattle.state.specs.Block.{rows, bytes}
use Rattle.state.specs.Rows.{add_rows}
use Rattle.rounds.specs.Tweakey.{scream_tweakey, iscream_tweakey}

-- what the two ciphers differ in: the boxes with their inverses, and the tweakeys of a key and a tweak
pub record Parts : Type 0 where
  pub sbox : List ℕ
  pub sbox_inverse : List ℕ
  pub lbox : List (List ℕ)
  pub lbox_inverse : List (List ℕ)
  pub tweakey : List ℕ → List ℕ → ℕ → List ℕ

abbrev pub parts : Cipher → Parts
parts Scream =
    record {
      sbox = Sbox.scream;
      sbox_inverse = Sbox.scream_inverse;
      lbox = Lbox.scream;
      lbox_inverse = Lbox.scream_inverse;
      tweakey = scream_tweakey;
    }
parts IScream =
    record {
      sbox = Sbox.iscream;
      sbox_inverse = Sbox.iscream;
      lbox = Lbox.iscream;
      lbox_inverse = Lbox.iscream;
      tweakey = iscream_tweakey;
    }

-- Appendix C: "C(ρ) = 27 · ρ mod 256", ρ being Algorithm 1's round index r, from 1
unfoldable pub constant : ℕ → ℕ
constant r = 27 * r % 256

-- "a 16-bit constant goes into row 0"
unfoldable pub add_constant : ℕ → List ℕ → List ℕ
add_constant c x = set x 0 (bit_xor (get_or x 0 0) c)

-- round r: "S on columns, round constant, L on rows"
unfoldable pub round : Parts → ℕ → List ℕ → List ℕ
round p r x = Lbox.layer p.lbox (add_constant (constant r) (Sbox.layer p.sbox x))

-- round r undone
unfoldable pub unround : Parts → ℕ → List ℕ → List ℕ
unround p r y = Sbox.layer p.sbox_inverse (add_constant (constant r) (Lbox.layer p.lbox_inverse y))

-- the step after n steps, step n + 1: "two rounds a step", then "TK(σ) after step σ"
unfoldable pub step : Parts → (ℕ → List ℕ) → ℕ → List ℕ → List ℕ
step p tk n x = add_rows (round p (2 * n + 2) (round p (2 * n + 1) x)) (tk (n + 1))

-- step n + 1 undone
unfoldable pub unstep : Parts → (ℕ → List ℕ) → ℕ → List ℕ → List ℕ
unstep p tk n y = unround p (2 * n + 1) (unround p (2 * n + 2) (add_rows y (tk (n + 1))))

-- n steps where s are done, and their undoing
unfoldable pub steps : Parts → (ℕ → List ℕ) → ℕ → ℕ → List ℕ → List ℕ
steps p tk s zero x = x
steps p tk s (suc n) x = step p tk (s + n) (steps p tk s n x)

unfoldable pub unsteps : Parts → (ℕ → List ℕ) → ℕ → ℕ → List ℕ → List ℕ
unsteps p tk s zero y = y
unsteps p tk s (suc n) y = unsteps p tk s n (unstep p tk (s + n) y)

-- the tweakeys under a key and a tweak that are blocks
abbrev pub tweakeys : Cipher → List ℕ → List ℕ → ℕ → List ℕ
tweakeys c key tweak = (parts c).tweakey (rows key) (rows tweak)

-- a block enciphered in n steps: "TK(0) is added first"
unfoldable pub encipher : Cipher → ℕ → List ℕ → List ℕ → List ℕ → List ℕ
encipher c n key tweak block = bytes (steps (parts c) (tweakeys c key tweak) 0 n (add_rows (rows block) (tweakeys c key tweak 0)))

unfoldable pub decipher : Cipher → ℕ → List ℕ → List ℕ → List ℕ → List ℕ
decipher c n key tweak block = bytes (add_rows (unsteps (parts c) (tweakeys c key tweak) 0 n (rows block)) (tweakeys c key tweak 0))

-- one step of a block that has had TK(0) and n steps; no suite has more than 14, and past these the block stays as it was
unfoldable pub stepped : Cipher → ℕ → List ℕ → List ℕ → List ℕ → List ℕ
stepped c n key tweak block = cond (ltb n 14) (bytes (step (parts c) (tweakeys c key tweak) n (rows block))) block

-- step n + 1 of a block undone
unfoldable pub unstepped : Cipher → ℕ → List ℕ → List ℕ → List ℕ → List ℕ
unstepped c n key tweak block = cond (ltb n 14) (bytes (unstep (parts c) (tweakeys c key tweak) n (rows block))) block
