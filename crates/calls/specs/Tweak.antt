-- The tweaks of a sealing's cipher calls.
use Rattle.std.specs.Prelude.{Bool, cond, ◌&&◌, List, ◌++◌, ℕ, suc, ◌+◌, ◌-◌, ◌*◌, ◌/◌, ◌%◌, ◌^◌, eqb, ltb, length}
use Rattle.bits.specs.Bytes.{big_endian}

-- "A nonce has n bytes, 1 to 15, and stands first." In all remaining bytes a number, big-endian, with a mark added in the first
-- of these. Within the limits a number leaves the mark's bits free (text_tweak_bits, header_tweak_bits).
unfoldable pub tweak : List ℕ → ℕ → ℕ → List ℕ
tweak nonce mark number = nonce ++ big_endian (16 - length nonce) (mark * 256 ^ (15 - length nonce) + number)

-- "After the nonce, highest bit first, number big-endian in all remaining bits: not-last text block 0 and number"
abbrev pub text_tweak : List ℕ → ℕ → List ℕ
text_tweak nonce i = tweak nonce 0x00 i

-- "not-last header block 10 and number"
abbrev pub header_tweak : List ℕ → ℕ → List ℕ
header_tweak nonce i = tweak nonce 0x80 i

-- "Special tweaks have after the nonce one byte, then zeros" (special_bytes)
abbrev pub special_tweak : List ℕ → ℕ → List ℕ
special_tweak nonce byte = tweak nonce byte 0

-- ⌈n / 16⌉: into how many blocks n bytes are cut
abbrev pub blocks_of : ℕ → ℕ
blocks_of n = (n + 15) / 16

-- of a string of n bytes, block i is not the last
abbrev pub inner : ℕ → ℕ → Bool
inner n i = ltb (suc i) (blocks_of n)

-- "a last block of 16 is full"; an empty string has no block and counts as partial ("Empty text: tweak E8")
abbrev pub full : ℕ → Bool
full n = ltb 0 n && eqb (n % 16) 0

-- "text last full C0, text last partial C8, header last full D0, header last partial D8, tag after full text E0, after partial E8"
abbrev pub last_text_mark : ℕ → ℕ
last_text_mark m = cond (full m) 0xC0 0xC8

abbrev pub last_header_mark : ℕ → ℕ
last_header_mark a = cond (full a) 0xD0 0xD8

abbrev pub tag_mark : ℕ → ℕ
tag_mark m = cond (full m) 0xE0 0xE8
