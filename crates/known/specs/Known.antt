-- The known values that the prover checks: one list, each as the definitions compute it beside what the scope states.
use Rattle.std.specs.Prelude.{◌≡◌, List, [], ◌∷◌, map, ℕ, length, get_or, take, drop, replicate}
use Rattle.sbox.specs.Sbox
use Rattle.lbox.specs.Lbox
use Rattle.calls.specs.Calls.{calls}
use Rattle.calls.specs.Tweak.{text_tweak, header_tweak}
use Rattle.suites.specs.declared.suite.Suite.{Suite}
use Rattle.fields.specs.Kind.{Kind, kind10, writer_kind}
use Rattle.format.specs.Layout.{book_bytes}
use Rattle.format.specs.Sealings.{Sealing, cipher_calls}
use Rattle.fields.specs.Unit.{BookUnit, unit_of}
use Rattle.checker.specs.Exact.{book_sealings}
use Rattle.rounds.specs.Tweakey.{φ, rotated_row}

pub record Value : Type 0 where
  pub computed : List ℕ
  pub stated : List ℕ

-- a number that is known
abbrev is : ℕ → ℕ → Value
is a b = record { computed = a ∷ []; stated = b ∷ [] }

-- a string or a state that is known
abbrev are : List ℕ → List ℕ → Value
are a b = record { computed = a; stated = b }

-- two halves of eight bytes, each with a number below 65536, as rows
abbrev halves : ℕ → ℕ → List ℕ
halves a b = a ∷ 0 ∷ 0 ∷ 0 ∷ b ∷ 0 ∷ 0 ∷ 0 ∷ []

-- how many calls there are for a header of a bytes and a text of m
abbrev calls_for : ℕ → ℕ → ℕ
calls_for a m = length (calls (0 ∷ []) (replicate a 0) (replicate m 0))

-- Scream with 10 steps
abbrev pub scream10 : Suite
scream10 = record { cipher = 1; steps = 10 }

-- value 8's book: its key, number and units, one from en to de with a source of 5 bytes and a target of 6; its bytes, and its sealings, in a
-- book of a kind
abbrev pub key8 : List ℕ
key8 = replicate 16 0

abbrev pub number8 : ℕ
number8 = 7

abbrev pub units8 : List BookUnit
units8 = unit_of (0x65 ∷ 0x6E ∷ []) (0x64 ∷ 0x65 ∷ []) (replicate 5 0) (replicate 6 0) ∷ []

abbrev pub book8 : Kind → List ℕ
book8 kind = book_bytes kind scream10 key8 number8 units8

abbrev sealings8 : Kind → List Sealing
sealings8 kind = book_sealings kind scream10 number8 units8

-- "opens 01 00 08 00 00 00 00 00 00 00 07 02 00 02 01 0A"
abbrev opening8 : List ℕ
opening8 = 0x01 ∷ 0x00 ∷ 0x08 ∷ 0x00 ∷ 0x00 ∷ 0x00 ∷ 0x00 ∷ 0x00 ∷ 0x00 ∷ 0x00 ∷ 0x07 ∷ 0x02 ∷ 0x00 ∷ 0x02 ∷ 0x01 ∷ 0x0A ∷ []

unfoldable pub known : List Value
known =
    -- 1: "Scream S: 00→1E, 1E→00"
    is (get_or Sbox.scream 0x00 0) 0x1E ∷
    is (get_or Sbox.scream 0x1E 0) 0x00 ∷
    -- 2: "iScream S: 01→85, 02→65, 85→01"
    is (get_or Sbox.iscream 0x01 0) 0x85 ∷
    is (get_or Sbox.iscream 0x02 0) 0x65 ∷
    is (get_or Sbox.iscream 0x85 0) 0x01 ∷
    -- 3: "iScream L: 0001→FFFE, 0002→CCC1"
    is (Lbox.times Lbox.iscream 0x0001) 0xFFFE ∷
    is (Lbox.times Lbox.iscream 0x0002) 0xCCC1 ∷
    -- 4: "φ: (1, 2), (3, 1), (2, 3), (1, 2)"
    are (φ (halves 1 2)) (halves 3 1) ∷
    are (φ (halves 3 1)) (halves 2 3) ∷
    are (φ (halves 2 3)) (halves 1 2) ∷
    -- 5: "Row 8001 rotated is 0003"
    is (rotated_row 0x8001) 0x0003 ∷
    -- 6: "n = 15, last byte: text block 126 7E, header block 62 BE"
    is (get_or (text_tweak (replicate 15 0) 126) 15 0) 0x7E ∷
    is (get_or (header_tweak (replicate 15 0) 62) 15 0) 0xBE ∷
    -- 7: "Calls for (a, m): (0, 0) 1; (16, 16) 3; (17, 17) 5; (25, 13) 4"
    is (calls_for 0 0) 1 ∷
    is (calls_for 16 16) 3 ∷
    is (calls_for 17 17) 5 ∷
    is (calls_for 25 13) 4 ∷
    -- 8: "Book 7, Scream 10 steps, opens 01 00 08 00 00 00 00 00 00 00 07 02 00 02 01 0A": "case 8 as printed stays as an old book"
    are (take 16 (book8 kind10)) opening8 ∷
    -- "unit 0, en to de, goes on 10 00 06 00 00 65 6E 64 65"
    are (take 9 (drop 16 (book8 kind10))) (0x10 ∷ 0x00 ∷ 0x06 ∷ 0x00 ∷ 0x00 ∷ 0x65 ∷ 0x6E ∷ 0x64 ∷ 0x65 ∷ []) ∷
    -- "with s 5, t 6 and a close it has 84 bytes, 7 calls"
    is (length (book8 kind10)) 84 ∷
    is (length (cipher_calls (sealings8 kind10))) 7 ∷
    -- the same as the writer makes it: case 8 follows "the fields that the writer makes, here (88 bytes, 7 calls)"
    are (take 16 (book8 writer_kind)) opening8 ∷
    are (take 11 (drop 16 (book8 writer_kind))) (0x14 ∷ 0x00 ∷ 0x08 ∷ 0x00 ∷ 0x00 ∷ 0x00 ∷ 0x00 ∷ 0x65 ∷ 0x6E ∷ 0x64 ∷ 0x65 ∷ []) ∷
    is (length (book8 writer_kind)) 88 ∷
    is (length (cipher_calls (sealings8 writer_kind))) 7 ∷
    -- "The header sealed along is fields 01, 02 and 10 (25 bytes) or 20 (21 bytes)", and as the writer makes them
    are (map (λ s. length s.header) (sealings8 kind10)) (25 ∷ 21 ∷ []) ∷
    are (map (λ s. length s.header) (sealings8 writer_kind)) (27 ∷ 23 ∷ []) ∷
    []

-- each value of a list is computed as it is stated
abbrev pub KnownHold : List Value → Type 0
KnownHold [] = Unit {0}
KnownHold (v ∷ l) = (v.computed ≡ v.stated) × KnownHold l
