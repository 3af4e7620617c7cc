-- Kinds of book: what may differ in the headers of units and in the close.
use Rattle.std.specs.Prelude.{◌≢◌, ℕ, ◌^◌, ◌≤◌, ◌<◌}

pub record Kind : Type 0 where
  -- the tags of a unit's header and of the close
  pub header_tag : ℕ
  pub close_tag : ℕ
  -- how many bytes a unit number has, and the unit count
  pub number_bytes : ℕ
  -- how many bytes a language code has
  pub code_bytes : ℕ
  -- how many units there may be
  pub unit_limit : ℕ

-- "A unit: 10 (6 bytes: unit number, source and target language, two bytes each)." "Close: 20 (2 bytes, unit count)."
-- "Units count from 0, at most 65,535."
abbrev pub kind10 : Kind
kind10 = record { header_tag = 0x10; close_tag = 0x20; number_bytes = 2; code_bytes = 2; unit_limit = 65535 }

-- "Unit header and close get 4-byte numbers, under tags 14 and 21 (hexadecimal); at most 16,777,215 units."
abbrev pub kind14 : Kind
kind14 = record { header_tag = 0x14; close_tag = 0x21; number_bytes = 4; code_bytes = 2; unit_limit = 16777215 }

-- "The writer makes only the wide kind."
abbrev pub writer_kind : Kind
writer_kind = kind14

-- what the laws ask of a kind
pub record WellFormed (k : Kind) : Type 0 where
  pub header_byte : k.header_tag < 256
  pub close_byte : k.close_tag < 256
  pub tags_differ : k.header_tag ≢ k.close_tag
  -- each number up to the limit has room in a header, in a close, and in the nonce's 4 bytes
  pub numbers_fit : k.unit_limit < 256 ^ k.number_bytes
  pub numbers_short : k.number_bytes ≤ 4
  pub codes_short : k.code_bytes ≤ 4
