-- The S-boxes by bit equations: Algorithms 3, 4 and 5 of the paper. Registers 0 to 7 are the rows, the others temporaries.
use Rattle.std.specs.Prelude.{List, [], ◌∷◌, ◌++◌, ℕ, ◌+◌}
use Rattle.sbox.specs.Circuit.{Instruction, put, reg, xor, and, or, not}

-- the 5-bit S-box of Algorithm 3
abbrev five : List Instruction
five =
    put 2 (xor (reg 2) (and (reg 0) (reg 1)))
    ∷ put 1 (xor (reg 1) (reg 2))
    ∷ put 3 (xor (reg 3) (and (reg 0) (reg 4)))
    ∷ put 2 (xor (reg 2) (reg 3))
    ∷ put 0 (xor (reg 0) (and (reg 3) (reg 1)))
    ∷ put 4 (xor (reg 4) (reg 1))
    ∷ put 1 (xor (reg 1) (and (reg 2) (reg 4)))
    ∷ put 1 (xor (reg 1) (reg 0))
    ∷ []

-- the 3-bit S-box of Algorithms 3 and 4
abbrev three : List Instruction
three =
    put 8 (reg 5)
    ∷ put 9 (reg 6)
    ∷ put 10 (reg 7)
    ∷ put 5 (xor (reg 5) (and (not (reg 9)) (reg 10)))
    ∷ put 6 (xor (reg 6) (and (not (reg 10)) (reg 8)))
    ∷ put 7 (xor (reg 7) (and (not (reg 8)) (reg 9)))
    ∷ []

-- Algorithm 3, Scream: 5-bit S-box, Extend-Xor, Constant, 3-bit S-box, Truncate-Xor, 5-bit S-box
abbrev pub scream : List Instruction
scream =
    five
    ++ (put 0 (xor (reg 0) (reg 5)) ∷ put 1 (xor (reg 1) (reg 6)) ∷ put 2 (xor (reg 2) (reg 7)) ∷ [])
    ++ (put 3 (not (reg 3)) ∷ put 4 (not (reg 4)) ∷ [])
    ++ three
    ++ (put 5 (xor (reg 0) (reg 5)) ∷ put 6 (xor (reg 1) (reg 6)) ∷ put 7 (xor (reg 2) (reg 7)) ∷ [])
    ++ five

-- the 5-bit S-box undone
abbrev unfive : List Instruction
unfive =
    put 1 (xor (reg 1) (reg 0))
    ∷ put 1 (xor (reg 1) (and (reg 2) (reg 4)))
    ∷ put 4 (xor (reg 4) (reg 1))
    ∷ put 0 (xor (reg 0) (and (reg 3) (reg 1)))
    ∷ put 2 (xor (reg 2) (reg 3))
    ∷ put 3 (xor (reg 3) (and (reg 0) (reg 4)))
    ∷ put 1 (xor (reg 1) (reg 2))
    ∷ put 2 (xor (reg 2) (and (reg 0) (reg 1)))
    ∷ []

-- Algorithm 4, the inverse: the same from the end
abbrev pub scream_inverse : List Instruction
scream_inverse =
    unfive
    ++ (put 7 (xor (reg 2) (reg 7)) ∷ put 6 (xor (reg 1) (reg 6)) ∷ put 5 (xor (reg 0) (reg 5)) ∷ [])
    ++ three
    ++ (put 4 (not (reg 4)) ∷ put 3 (not (reg 3)) ∷ [])
    ++ (put 2 (xor (reg 2) (reg 7)) ∷ put 1 (xor (reg 1) (reg 6)) ∷ put 0 (xor (reg 0) (reg 5)) ∷ [])
    ++ unfive

-- One round of Algorithm 5, from four registers and added to the other four, as the scope corrects it: "with inputs a, b, c, d the
-- round is t0 = (a and b) xor c, t2 = (c or b) xor d, t3 = (t0 and d) xor a, t1 = (t2 and a) xor b"
abbrev four : ℕ → ℕ → List Instruction
four i o =
    put 8 (xor (and (reg i) (reg (i + 1))) (reg (i + 2)))
    ∷ put 10 (xor (or (reg (i + 2)) (reg (i + 1))) (reg (i + 3)))
    ∷ put 11 (xor (and (reg 8) (reg (i + 3))) (reg i))
    ∷ put 9 (xor (and (reg 10) (reg i)) (reg (i + 1)))
    ∷ put o (xor (reg o) (reg 8))
    ∷ put (o + 1) (xor (reg (o + 1)) (reg 9))
    ∷ put (o + 2) (xor (reg (o + 2)) (reg 10))
    ∷ put (o + 3) (xor (reg (o + 3)) (reg 11))
    ∷ []

-- Algorithm 5, iScream: three rounds
abbrev pub iscream : List Instruction
iscream = four 4 0 ++ four 0 4 ++ four 4 0
