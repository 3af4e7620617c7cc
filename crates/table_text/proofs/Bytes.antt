-- The text by its bytes: three of each entry.
use mathlib.Core.Path.{◌≡◌, refl, ◌∙◌}
use mathlib.Core.List.{List, flatten}
use Prim.Native.Nat.{ℕ, zero, suc, ◌+◌, ◌*◌, ◌/◌, ◌%◌, ◌<◌}
use native.Mathlib.Omega.{arith}
use lib.ListN.{get_or, set}
use Rattle.bits.specs.Table.{tab}
use Rattle.bits.proofs.Lists.{Filled, filled_more}
use Rattle.table_text.specs.Text.{hex_digit, table_text}
use Rattle.table_text.specs.Code.{behind}

-- the high digit of entry i, its low digit, and what stands behind it
abbrev pub part : ℕ → List ℕ → ℕ → ℕ
part zero t i = hex_digit (get_or t i 0 / 16)
part (suc zero) t i = hex_digit (get_or t i 0 % 16)
part (suc (suc k)) t i = behind i

-- what stands at each index of the text
abbrev pub byte_at : List ℕ → ℕ → ℕ
byte_at t j = part (j % 3) t (j / 3)

pub by_bytes : (t : List ℕ) → tab 768 (byte_at t) ≡ table_text t
unfolding table_text flatten
by_bytes t = refl

-- where the bytes of entry i stand
byte_of : (t : List ℕ) (i k j : ℕ) → k < 3 → j ≡ 3 * i + k → part k t i ≡ byte_at t j
byte_of t i k j h e =
    let m : j % 3 ≡ k = omega arith in
    let q : j / 3 ≡ i = omega arith in
    rw (m, q)

-- one entry more
pub entry_more :
    (t : List ℕ) (i : ℕ) {l : List ℕ} →
    Filled 768 (byte_at t) (3 * i) l →
    i < 256 →
    (x y z : ℕ) →
    x ≡ part 0 t i →
    y ≡ part 1 t i →
    z ≡ part 2 t i →
    Filled 768 (byte_at t) (3 * (i + 1)) (set (set (set l (3 * i) x) (3 * i + 1) y) (3 * i + 2) z)
entry_more t i f h x y z ex ey ez =
    let one = filled_more f (omega arith) x (ex ∙ byte_of t i 0 (3 * i) (omega arith) (omega arith)) in
    let two = filled_more one (omega arith) y (ey ∙ byte_of t i 1 (3 * i + 1) (omega arith) (omega arith)) in
    let e : 3 * i + 1 + 1 ≡ 3 * i + 2 = omega arith in
    let n : 3 * (i + 1) ≡ 3 * i + 2 + 1 = omega arith in
    rw n (filled_more (rw e at two) (omega arith) z (ez ∙ byte_of t i 2 (3 * i + 2) (omega arith) refl))
