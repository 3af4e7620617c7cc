-- Sealing and opening over any pair of functions that encipher and decipher a block under a tweak.
use Rattle.std.specs.Prelude.{Bool, false, cond, List, [], ◌∷◌, ◌++◌, map, ℕ, eqb, length, replicate}
use Rattle.bits.specs.Bytes.{added}
use Rattle.blockwise.specs.Blocks.{block, strung}
use Rattle.calls.specs.Tweak.{blocks_of, inner}
use Rattle.calls.specs.Calls.{Place, header, text, tag, CipherCall, block_calls, tag_call, calls}

-- what a cipher call gave, with its place
pub record Outcome : Type 0 where
  pub place : Place
  pub block : List ℕ

-- the calls run, one after the other
unfoldable pub run : (CipherCall → List ℕ) → List CipherCall → List Outcome
run f cs = map (λ c. record { place = c.place; block = f c }) cs

abbrev pub is_text : ℕ → Place → Bool
is_text i (header j) = false
is_text i (text j) = eqb i j
is_text i tag = false

-- the outcome of text block i; [] where there is none
unfoldable pub outcome_at : ℕ → List Outcome → List ℕ
outcome_at i [] = []
outcome_at i (o ∷ os) = cond (is_text i o.place) o.block (outcome_at i os)

-- a text, or a ciphertext, with the outcome of each block in its place; of a last block's outcome, the enciphered length block,
-- "the leading bytes are added to it by xor"
unfoldable pub placed : List ℕ → List Outcome → List ℕ
placed t os = strung (blocks_of (length t)) (λ i. cond (inner (length t) i) (outcome_at i os) (added (block t i) (outcome_at i os)))

-- what an outcome adds to the tag
abbrev pub tag_part : Place → List ℕ → List ℕ
tag_part (header j) b = b
tag_part (text j) b = replicate 16 0
tag_part tag b = b

-- "Tag: enciphered checksum xor all enciphered header blocks. Empty header: no call, zero."
unfoldable pub tag_of : List Outcome → List ℕ
tag_of [] = replicate 16 0
tag_of (o ∷ os) = added (tag_part o.place o.block) (tag_of os)

-- "Sealed bytes are ciphertext, then tag": put together from outcomes in any order, by their places
unfoldable pub assembled : List ℕ → List Outcome → List ℕ
assembled t os = placed t os ++ tag_of os

-- a call of a sealing: enciphered
abbrev pub ahead : (List ℕ → List ℕ → List ℕ) → CipherCall → List ℕ
ahead e c = e c.tweak c.block

-- the sealed bytes of the text t, under a nonce and a header h
unfoldable pub sealing : (List ℕ → List ℕ → List ℕ) → List ℕ → List ℕ → List ℕ → List ℕ
sealing e nonce h t = assembled t (run (ahead e) (calls nonce h t))

-- the tag of the text that the outcomes of an opening's calls before its tag call give for the ciphertext c
unfoldable pub opened_tag : (List ℕ → List ℕ → List ℕ) → List ℕ → List ℕ → List Outcome → List ℕ
opened_tag e nonce c os = added (ahead e (tag_call nonce (placed c os))) (tag_of os)

-- the place of a text block that is not last, of m bytes
abbrev pub is_inner : ℕ → Place → Bool
is_inner m (header j) = false
is_inner m (text j) = inner m j
is_inner m tag = false

module _ (e d : List ℕ → List ℕ → List ℕ) where
  -- a call of an opening: only the text blocks that are not last are deciphered
  abbrev pub back : ℕ → CipherCall → List ℕ
  back m c = cond (is_inner m c.place) (d c.tweak c.block) (e c.tweak c.block)

  -- the outcomes of an opening's calls before its tag call
  unfoldable pub open_outcomes : List ℕ → List ℕ → List ℕ → List Outcome
  open_outcomes nonce h c = run (back (length c)) (block_calls nonce h c)

  -- the text of a ciphertext
  unfoldable pub opening : List ℕ → List ℕ → List ℕ → List ℕ
  opening nonce h c = placed c (open_outcomes nonce h c)

  -- the tag that belongs to that text
  unfoldable pub opening_tag : List ℕ → List ℕ → List ℕ → List ℕ
  opening_tag nonce h c = opened_tag e nonce c (open_outcomes nonce h c)
