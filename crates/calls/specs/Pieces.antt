-- Sealing and opening block by block: the form in which the code goes through a text, and in which no entry point's contract
-- speaks. The laws in proofs/ say that it is the definition of Sealing.
use Rattle.std.specs.Prelude.{cond, List, ℕ, ◌+◌, length}
use Rattle.bits.specs.Bytes.{added}
use Rattle.blockwise.specs.Blocks.{block, strung}
use Rattle.calls.specs.Tweak.{text_tweak, header_tweak, special_tweak, blocks_of, inner, last_text_mark, last_header_mark, tag_mark}
use Rattle.calls.specs.Calls.{filled, length_block, sum_of}

module _ (f e : List ℕ → List ℕ → List ℕ) where
  -- what block i of a text of m bytes becomes: f of its tweak and itself where it is not last; the last one with its enciphered
  -- length added
  unfoldable pub piece : List ℕ → ℕ → ℕ → List ℕ → List ℕ
  piece nonce m i b = cond (inner m i) (f (text_tweak nonce i) b) (added b (e (special_tweak nonce (last_text_mark m)) (length_block (length b))))

  -- what the part s of a text of m bytes becomes that begins at its block `first`
  unfoldable pub through : List ℕ → ℕ → ℕ → List ℕ → List ℕ
  through nonce m first s = strung (blocks_of (length s)) (λ i. piece nonce m (first + i) (block s i))

-- all enciphered header blocks, added up
unfoldable pub header_sum : (List ℕ → List ℕ → List ℕ) → List ℕ → List ℕ → List ℕ
header_sum e nonce h =
    sum_of (blocks_of (length h))
    (λ i. e (cond (inner (length h) i) (header_tweak nonce i) (special_tweak nonce (last_header_mark (length h)))) (filled 0x80 (block h i)))

-- the tag of a text of m bytes, by its checksum and the header's sum
unfoldable pub tag_from : (List ℕ → List ℕ → List ℕ) → List ℕ → ℕ → List ℕ → List ℕ → List ℕ
tag_from e nonce m check sum = added (e (special_tweak nonce (tag_mark m)) check) sum
