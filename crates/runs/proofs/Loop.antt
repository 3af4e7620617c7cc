-- The loop over the whole blocks, for any function of a tweak and a block.
use mathlib.Core.Path.{◌≡◌, ap, ◌∙◌}
use mathlib.Core.List.{List}
use Prim.Native.Nat.{ℕ, ◌+◌, ◌*◌, ◌/◌, ◌≤◌, ◌<◌, min}
use native.Mathlib.Omega.{arith}
use lib.ListN.{length}
use Rattle.blockwise.specs.Blocks.{each_of, each_block}
use Rattle.blockwise.proofs.Each.{Blockwise, each_none, each_more, each_long}
use Rattle.runs.specs.Run.{one_at}

-- x is b with the first i of its m blocks done
pub record Done (f : List ℕ → List ℕ → List ℕ) (t b : List ℕ) (m i : ℕ) (x : List ℕ) : Type 0 where
  pub blockwise : Blockwise f
  pub whole : m ≡ min (length t) (length b) / 16
  pub within : i ≤ m
  pub is : x ≡ each_of f i t b

pub none_done : {f : List ℕ → List ℕ → List ℕ} {t b : List ℕ} {m : ℕ} → Blockwise f → m ≡ min (length t) (length b) / 16 → Done f t b m 0 b
none_done {f} {t} {b} k e = record { blockwise = k; whole = e; within = omega arith; is = each_none f k t b }

module _ {f : List ℕ → List ℕ → List ℕ} {t b : List ℕ} {m i : ℕ} {x : List ℕ} (d : Done f t b m i x) where
  -- the length is kept
  pub kept : length x ≡ length b
  kept = ap length d.is ∙ each_long f d.blockwise t b i (omega arith) (omega arith)

  -- block i lies within both
  pub next : i < m → (16 * i + 16 ≤ length t) × (16 * i + 16 ≤ length x)
  next h = (omega arith, omega (arith, kept))

  pub one_more : i < m → {y : List ℕ} → y ≡ one_at f (16 * i) t x → Done f t b m (i + 1) y
  one_more h e =
      record {
        blockwise = d.blockwise;
        whole = d.whole;
        within = omega arith;
        is = e ∙ ap (one_at f (16 * i) t) d.is ∙ each_more f d.blockwise t b i (omega arith) (omega arith);
      }

  pub all_done : m ≤ i → x ≡ each_block f t b
  unfolding each_block
  all_done h =
      let e : i ≡ min (length t) (length b) / 16 = omega arith in
      d.is ∙ ap (λ (n : ℕ). each_of f n t b) e
