-- The tweakeys of both ciphers, as rows.
use Rattle.std.specs.Prelude.{cond, List, ◌++◌, ℕ, zero, suc, ◌+◌, ◌*◌, ◌/◌, ◌%◌, eqb, get_or, take}
use Rattle.std.specs.Int.Bits.{bit_xor}
use Rattle.bits.specs.Table.{tab}
use Rattle.state.specs.Rows.{add_rows}

-- "φ(x0, x1) = (x0 xor x1, x0) on 8-byte halves": a half is four rows
unfoldable pub φ : List ℕ → List ℕ
φ t = tab 4 (λ i. bit_xor (get_or t i 0) (get_or t (i + 4) 0)) ++ take 4 t

abbrev pub φs : ℕ → List ℕ → List ℕ
φs zero t = t
φs (suc n) t = φ (φs n t)

-- "Scream: TK(σ) is K xor φ applied σ mod 3 times to the tweak"
unfoldable pub scream_tweakey : List ℕ → List ℕ → ℕ → List ℕ
scream_tweakey key tweak σ = add_rows key (φs (σ % 3) tweak)

-- a row of 16 bits rotated left by 1
abbrev pub rotated_row : ℕ → ℕ
rotated_row x = x % 32768 * 2 + x / 32768

unfoldable pub rotated : List ℕ → List ℕ
rotated t = tab 8 (λ i. rotated_row (get_or t i 0))

-- "iScream: tweak xor K for even σ; for odd σ the tweak with each row rotated left by 1, without K"
unfoldable pub iscream_tweakey : List ℕ → List ℕ → ℕ → List ℕ
iscream_tweakey key tweak σ = cond (eqb (σ % 2) 0) (add_rows key tweak) (rotated tweak)
