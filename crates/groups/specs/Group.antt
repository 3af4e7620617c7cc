-- A few blocks at a place of a slice. No entry point's contract cites this crate.
use Rattle.std.specs.Prelude.{List, ℕ, ◌+◌, ◌*◌, take, drop}
use Rattle.std.proofs.Math.Seq.{paste}
use Rattle.blockwise.specs.Blocks.{strung}
use Rattle.turns.specs.Turns.{ciphered}
use Rattle.groups.specs.declared.way.Way.{Way}

-- b with the r blocks at a place replaced, each by f of the tweak at its place and itself
unfoldable pub few_at : (List ℕ → List ℕ → List ℕ) → ℕ → ℕ → List ℕ → List ℕ → List ℕ
few_at f r at t b = paste b at (strung r (λ i. f (take 16 (drop (at + 16 * i) t)) (take 16 (drop (at + 16 * i) b)))) (16 * r)

-- a block under a tweak on its way
abbrev pub through : Way → List ℕ → List ℕ → List ℕ
through w = ciphered w.ahead w.cipher w.steps w.key
