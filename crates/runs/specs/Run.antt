-- A run of steps that need not be the first ones: what encipher and one step have in common in the code. No entry point's
-- contract cites this file.
use Rattle.std.specs.Prelude.{Bool, true, false, cond, List, ℕ, leb, take, drop}
use Rattle.std.proofs.Math.Seq.{paste}
use Rattle.blockwise.specs.Blocks.{each_block}
use Rattle.rounds.specs.declared.Cipher.{Cipher}
use Rattle.state.specs.Block.{rows, bytes}
use Rattle.state.specs.Rows.{add_rows}
use Rattle.rounds.specs.Cipher.{parts, steps, unsteps, tweakeys}

-- of a block: n steps where s are done, before them TK(0) if `first`
unfoldable pub ahead_block : Cipher → ℕ → ℕ → Bool → List ℕ → List ℕ → List ℕ → List ℕ
ahead_block c s n first key tweak b =
    bytes (steps (parts c) (tweakeys c key tweak) s n (cond first (add_rows (rows b) (tweakeys c key tweak 0)) (rows b)))

-- the undoing, after it TK(0) if `last`
unfoldable pub back_block : Cipher → ℕ → ℕ → Bool → List ℕ → List ℕ → List ℕ → List ℕ
back_block c s n last key tweak b =
    let y : List ℕ = unsteps (parts c) (tweakeys c key tweak) s n (rows b) in
    bytes (cond last (add_rows y (tweakeys c key tweak 0)) y)

-- either
abbrev pub block_by : Bool → Cipher → ℕ → ℕ → Bool → List ℕ → List ℕ → List ℕ → List ℕ
block_by true = ahead_block
block_by false = back_block

-- b with f of the tweak and the block that stand at a place, put there
abbrev pub one_at : (List ℕ → List ℕ → List ℕ) → ℕ → List ℕ → List ℕ → List ℕ
one_at f at t b = paste b at (f (take 16 (drop at t)) (take 16 (drop at b))) 16

-- every whole block by f where there are no more than 14 steps; more, which no suite has, change nothing
abbrev pub each_up_to14 : ℕ → (List ℕ → List ℕ → List ℕ) → List ℕ → List ℕ → List ℕ
each_up_to14 n f t b = cond (leb n 14) (each_block f t b) b
