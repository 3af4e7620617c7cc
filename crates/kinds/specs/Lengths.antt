-- What follows from a kind: lengths, places and numbers of cipher calls. Each field has 3 bytes before its value, its tag and length.
use Rattle.std.specs.Prelude.{◌≡◌, ℕ, ◌+◌, ◌≤◌}
use Rattle.calls.specs.Tweak.{blocks_of}
use Rattle.fields.specs.Kind.{Kind}
use Rattle.fields.specs.Unit.{details_length}

-- the value of a unit's header: its number, then its details; and the whole field
abbrev pub header_bytes : Kind → ℕ
header_bytes kind = kind.number_bytes + details_length kind

abbrev pub header_length : Kind → ℕ
header_length kind = 3 + header_bytes kind

-- the first field of a close
abbrev pub close_header_length : Kind → ℕ
close_header_length kind = 3 + kind.number_bytes

-- where the language codes stand in a unit: behind tag, length and number of its header
abbrev pub codes_at : Kind → ℕ
codes_at kind = 3 + kind.number_bytes

-- where the ciphertext stands in a unit: behind its header, and tag and length of field 11
abbrev pub ciphertext_at : Kind → ℕ
ciphertext_at kind = header_length kind + 3

-- a unit whose ciphertext has m bytes: its header, and fields 11 and 12
abbrev pub frame_length : Kind → ℕ → ℕ
frame_length kind m = header_length kind + (3 + m) + (3 + 16)

-- a unit with a source of s bytes and a target of t, and a close: "A book takes 16 + the sum of (33 + s + t) + 24 bytes", of kind 14 35 + s + t
-- and 26
abbrev pub unit_length : Kind → ℕ → ℕ → ℕ
unit_length kind s t = 27 + kind.number_bytes + details_length kind + (s + t)

abbrev pub close_length : Kind → ℕ
close_length kind = 22 + kind.number_bytes

-- "⌈a/16⌉ + ⌈m/16⌉ + 1": the cipher calls of a unit whose ciphertext has m bytes, and of a close. The header sealed along is the 16 bytes of
-- fields 01 and 02, then the unit's header or the close's first field.
abbrev pub unit_calls : Kind → ℕ → ℕ
unit_calls kind m = blocks_of (16 + header_length kind) + blocks_of m + 1

abbrev pub close_calls : Kind → ℕ
close_calls kind = blocks_of (16 + close_header_length kind) + blocks_of 0 + 1

-- a number r of the code is the number n of a kind, and at most as large as this, whatever the kind
pub record Small (most n r : ℕ) : Type 0 where
  pub is : r ≡ n
  pub short : r ≤ most
