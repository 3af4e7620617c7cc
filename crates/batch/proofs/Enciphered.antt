-- Blocks that were put, enciphered each under the tweak that was put at its place.
use mathlib.Core.Path.{◌≡◌, ap, ◌∙◌}
use mathlib.Core.List.{List, ◌++◌}
use Prim.Native.Nat.{ℕ, ◌*◌, ◌≤◌, ◌<◌}
use native.Mathlib.Omega.{arith}
use lib.ListN.{length, take, drop}
use Rattle.blockwise.specs.Blocks.{block, strung, each_block}
use Rattle.suites.specs.declared.suite.Suite.{Suite}
use Rattle.text_blocks.specs.Under.{enciphers}
use Rattle.text_blocks.proofs.Chunks.{each_strung}
use Rattle.batch.specs.Batch.{put_first}
use Rattle.batch.proofs.Put.{put_is, put_rest, put_long, put_block}

pub put_enciphered : (s : Suite) (key : List ℕ) (k : ℕ) (tweaks blocks : ℕ → List ℕ) (x y : List ℕ)
    → ((i : ℕ) → length (tweaks i) ≡ 16) → ((i : ℕ) → i < k → length (blocks i) ≡ 16) → 16 * k ≤ length y
    → each_block (enciphers s key) (take (16 * k) (put_first k tweaks x)) (put_first k blocks y)
    ≡ put_first k (λ i. enciphers s key (tweaks i) (blocks i)) y
unfolding put_first
put_enciphered s key k tweaks blocks x y tl bl room =
    let b = put_first k blocks y in
    let each : ℕ → List ℕ = λ i. enciphers s key (tweaks i) (block b i) in
    each_strung k tweaks tl (drop (16 * k) x) b (omega (arith, put_long k blocks y bl room)) (enciphers s key)
    ∙ ap (λ (r : List ℕ). strung k each ++ r) (put_rest k blocks y bl)
    ∙ put_is k each (λ i. enciphers s key (tweaks i) (blocks i)) y (λ i h. ap (enciphers s key (tweaks i)) (put_block k blocks y bl i h))
