-- Enciphering and deciphering as one run of turns: a tweakey is added; then at each turn two rounds, or two rounds undone, and a tweakey. So the
-- code has one text for both ways. No entry point's contract cites this crate.
use Rattle.std.specs.Prelude.{Bool, true, false, List, ℕ, zero, suc, ◌+◌, ◌-◌, ◌*◌}
use Rattle.sbox.specs.Sbox
use Rattle.lbox.specs.Lbox
use Rattle.state.specs.Rows.{add_rows}
use Rattle.rounds.specs.declared.Cipher.{Cipher}
use Rattle.rounds.specs.Cipher.{Parts, add_constant, round, unround, encipher, decipher}

-- a block enciphered, or deciphered
abbrev pub ciphered : Bool → Cipher → ℕ → List ℕ → List ℕ → List ℕ → List ℕ
ciphered true = encipher
ciphered false = decipher

-- a round, or a round undone, with its constant given
abbrev pub round_by : Bool → Parts → ℕ → List ℕ → List ℕ
round_by true p c x = Lbox.layer p.lbox (add_constant c (Sbox.layer p.sbox x))
round_by false p c x = Sbox.layer p.sbox_inverse (add_constant c (Lbox.layer p.lbox_inverse x))

-- of n steps, that of turn i, from 0: the first one first, or the last one
abbrev pub step_at : Bool → ℕ → ℕ → ℕ
step_at true n i = i
step_at false n i = n - suc i

-- the tweakey that is added before the turns
abbrev pub key_before : Bool → ℕ → ℕ
key_before true n = 0
key_before false n = n

-- the tweakey that is added behind the rounds of the step s
abbrev pub key_behind : Bool → ℕ → ℕ
key_behind true s = s + 1
key_behind false s = s

-- the two rounds of the step s, from 0, or these undone, the second first
unfoldable pub two_rounds : Bool → Parts → ℕ → List ℕ → List ℕ
two_rounds true p s x = round p (2 * s + 2) (round p (2 * s + 1) x)
two_rounds false p s x = unround p (2 * s + 1) (unround p (2 * s + 2) x)

-- i turns of n
unfoldable pub turns : Bool → Parts → (ℕ → List ℕ) → ℕ → ℕ → List ℕ → List ℕ
turns ahead p tk n zero x = add_rows x (tk (key_before ahead n))
turns ahead p tk n (suc i) x =
    add_rows (two_rounds ahead p (step_at ahead n i) (turns ahead p tk n i x)) (tk (key_behind ahead (step_at ahead n i)))
