-- What each table is made of: "from the matrices and bit equations".
use Rattle.std.specs.Prelude.{List, [], ◌∷◌, ◌++◌, ℕ, ◌*◌, ◌/◌, ◌%◌, get_or}
use Rattle.sbox.specs.Circuit.{Instruction, outcome}
use Rattle.sbox.specs.Equations
use Rattle.lbox.specs.Lbox
use Rattle.printed.specs.declared.Half.{Half}
use Rattle.printed.specs.declared.Half.TheVariants.{Low, High}

-- the word that has the byte b in one half and zeros in the other
abbrev pub in_half : Half → ℕ → ℕ
in_half Low b = b
in_half High b = b * 256

-- a half of a word
abbrev pub half_of : Half → ℕ → ℕ
half_of Low x = x % 256
half_of High x = x / 256 % 256

-- an entry of an L-table is a half of the product of a matrix and the byte in a half of the word; an entry of an S-table is what the bit
-- equations make of the byte as a column
pub data Rule : Type 0 where
  product : List (List ℕ) → Half → Half → Rule
  equations : List Instruction → Rule

-- what a rule makes of the byte b
abbrev pub made : Rule → ℕ → ℕ
made (product m from to) b = half_of to (Lbox.times m (in_half from b))
made (equations e) b = outcome e b

-- "L(b0 || b1) = (L11(b1) xor L21(b0)) || (L12(b1) xor L22(b0))"; "b0 is the high byte, b1 the low": the rules of L1,1, L1,2, L2,1, L2,2
abbrev pub four_of : List (List ℕ) → List Rule
four_of m = product m Low High ∷ product m Low Low ∷ product m High High ∷ product m High Low ∷ []

-- the rules of the fifteen tables
unfoldable pub rules : List Rule
rules =
    four_of Lbox.scream
    ++ four_of Lbox.scream_inverse
    ++ four_of Lbox.iscream
    ++ (equations Equations.scream ∷ equations Equations.scream_inverse ∷ equations Equations.iscream ∷ [])

-- the rule at a place
unfoldable pub rule : ℕ → Rule
rule p = get_or rules p (equations [])
