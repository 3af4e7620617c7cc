-- Fields: how one is written, and how one is read at a string's start.
use Rattle.std.specs.Prelude.{Bool, ◌&&◌, List, ◌∷◌, ◌++◌, ℕ, ◌+◌, eqb, leb, length, get_or, take, drop}
use Rattle.bits.specs.Bytes.{big_endian, number_of}

-- a tag and a length: what stands before a value
unfoldable pub field_head : ℕ → ℕ → List ℕ
field_head tag n = tag ∷ big_endian 2 n

-- "A field is a one-byte tag, a two-byte big-endian length, a value."
unfoldable pub field : ℕ → List ℕ → List ℕ
field tag value = field_head tag (length value) ++ value

-- the length that the field at a string's start states
unfoldable pub field_length : List ℕ → ℕ
field_length s = number_of (take 2 (drop 1 s))

-- a field with this tag and a value of n bytes stands at a string's start; else "wrong field tag or length, bytes missing"
unfoldable pub has_field : ℕ → ℕ → List ℕ → Bool
has_field tag n s = leb (3 + n) (length s) && (eqb (get_or s 0 0) tag && eqb (field_length s) n)

-- its value, and what follows it
unfoldable pub field_value : ℕ → List ℕ → List ℕ
field_value n s = take n (drop 3 s)

unfoldable pub after_field : ℕ → List ℕ → List ℕ
after_field n s = drop (3 + n) s
