-- The call list of a sealing.
use Rattle.std.specs.Prelude.{cond, List, [], ◌∷◌, ◌++◌, ℕ, zero, suc, ◌*◌, length, take, replicate}
use Rattle.bits.specs.Bytes.{added}
use Rattle.bits.specs.Table.{tab}
use Rattle.blockwise.specs.Blocks.{block}
use Rattle.calls.specs.Tweak.{text_tweak, header_tweak, special_tweak, blocks_of, inner, last_text_mark, last_header_mark, tag_mark}

-- where a cipher call's outcome belongs: to a header block or a text block, "two separate counts from 0", or to the tag
pub data Place : Type 0 where
  header : ℕ → Place
  text : ℕ → Place
  tag : Place

pub record CipherCall : Type 0 where
  pub place : Place
  pub tweak : List ℕ
  pub block : List ℕ

-- at most 16 bytes, then one byte more and zeros, up to 16
unfoldable pub filled : ℕ → List ℕ → List ℕ
filled pad b = take 16 (b ++ pad ∷ replicate 15 0)

-- "its bit length in byte 15 of an otherwise zero block"
unfoldable pub length_block : ℕ → List ℕ
length_block r = replicate 15 0 ++ 8 * r ∷ []

-- g 0, g 1, up to g (n - 1), added up
unfoldable pub sum_of : ℕ → (ℕ → List ℕ) → List ℕ
sum_of zero g = replicate 16 0
sum_of (suc n) g = added (sum_of n g) (g n)

-- "Checksum: xor of text blocks, the last zero-filled. Empty text: checksum zero."
unfoldable pub checksum : List ℕ → List ℕ
checksum t = sum_of (blocks_of (length t)) (λ i. filled 0x00 (block t i))

-- "Header and text are cut into blocks of 16." "Partial header block: 80, then zeros."
unfoldable pub header_call : List ℕ → List ℕ → ℕ → CipherCall
header_call nonce h i =
    record {
      place = header i;
      tweak = cond (inner (length h) i) (header_tweak nonce i) (special_tweak nonce (last_header_mark (length h)));
      block = filled 0x80 (block h i);
    }

-- "Last text block: its bit length in byte 15 of an otherwise zero block, enciphered"
unfoldable pub text_call : List ℕ → List ℕ → ℕ → CipherCall
text_call nonce t i =
    record {
      place = text i;
      tweak = cond (inner (length t) i) (text_tweak nonce i) (special_tweak nonce (last_text_mark (length t)));
      block = cond (inner (length t) i) (block t i) (length_block (length (block t i)));
    }

-- the call whose outcome, added to all enciphered header blocks, is the tag
unfoldable pub tag_call : List ℕ → List ℕ → CipherCall
tag_call nonce t = record { place = tag; tweak = special_tweak nonce (tag_mark (length t)); block = checksum t }

-- the calls before the tag call. "Empty header: no call", "Empty text: no text call"
unfoldable pub block_calls : List ℕ → List ℕ → List ℕ → List CipherCall
block_calls nonce h t = tab (blocks_of (length h)) (header_call nonce h) ++ tab (blocks_of (length t)) (text_call nonce t)

-- "The call list is these (tweak, block) pairs: header, text, tag, ⌈a/16⌉ + ⌈m/16⌉ + 1 in all." (length_calls)
unfoldable pub calls : List ℕ → List ℕ → List ℕ → List CipherCall
calls nonce h t = block_calls nonce h t ++ tag_call nonce t ∷ []
