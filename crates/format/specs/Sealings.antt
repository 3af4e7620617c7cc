-- What a book's sealings are made of: its opening fields, the headers of units and close, nonces and texts.
use Rattle.std.specs.Prelude.{List, [], ◌∷◌, ◌++◌, ℕ, suc, ◌+◌, length}
use Rattle.bits.specs.Bytes.{big_endian}
use Rattle.calls.specs.Calls.{CipherCall, calls}
use Rattle.calls.specs.Tweak.{blocks_of}
use Rattle.suites.specs.declared.suite.Suite.{Suite}
use Rattle.sealing.specs.Seal.{sealed}
use Rattle.fields.specs.Field.{field}
use Rattle.fields.specs.Kind.{Kind}
use Rattle.fields.specs.Unit.{BookUnit, details_of, unit_text}

-- "A book: 01 (8 bytes, book number), 02 (suite), units, close."
unfoldable pub opening_fields : Suite → ℕ → List ℕ
opening_fields suite number = field 0x01 (big_endian 8 number) ++ field 0x02 (suite.cipher ∷ suite.steps ∷ [])

-- "10 (6 bytes: unit number, source and target language, two bytes each)": of kind 10; tag and widths are the kind's
unfoldable pub unit_header : Kind → ℕ → List ℕ → List ℕ
unit_header kind n details = field kind.header_tag (big_endian kind.number_bytes n ++ details)

-- "Close: 20 (2 bytes, unit count)", likewise
unfoldable pub close_header : Kind → ℕ → List ℕ
close_header kind n = field kind.close_tag (big_endian kind.number_bytes n)

-- "The nonce is the book number and the unit number in 4 bytes (the count, at the close)."
unfoldable pub nonce_of : ℕ → ℕ → List ℕ
nonce_of number n = big_endian 8 number ++ big_endian 4 n

-- what is sealed: a text, under a nonce, with a header
pub record Sealing : Type 0 where
  pub nonce : List ℕ
  pub header : List ℕ
  pub text : List ℕ

-- "The header sealed along is fields 01, 02 and 10 (25 bytes) or 20 (21 bytes)", of kind 14 fields 01, 02 and 14 (27 bytes) or 21 (23 bytes):
-- it follows "the fields that the writer makes". Unit n of a book
unfoldable pub unit_sealing : Kind → Suite → ℕ → ℕ → BookUnit → Sealing
unit_sealing kind suite number n u =
    record {
      nonce = nonce_of number n;
      header = opening_fields suite number ++ unit_header kind n (details_of kind u);
      text = unit_text u.source u.target;
    }

-- its close after n units; "its text is empty"
unfoldable pub close_sealing : Kind → Suite → ℕ → ℕ → Sealing
close_sealing kind suite number n =
    record {
      nonce = nonce_of number n;  -- "(the count, at the close)"
      header = opening_fields suite number ++ close_header kind n;
      text = [];
    }

-- its units from number n on
unfoldable pub unit_sealings : Kind → Suite → ℕ → ℕ → List BookUnit → List Sealing
unit_sealings kind suite number n [] = []
unit_sealings kind suite number n (u ∷ us) = unit_sealing kind suite number n u ∷ unit_sealings kind suite number (suc n) us

-- ciphertext and tag under a suite and a key: demand 2's
unfoldable pub sealed_bytes : Suite → List ℕ → Sealing → List ℕ
sealed_bytes suite key s = sealed suite.cipher suite.steps key s.nonce s.header s.text

-- the call list of a sealing, and those of many, one behind the other
unfoldable pub sealing_calls : Sealing → List CipherCall
sealing_calls s = calls s.nonce s.header s.text

unfoldable pub cipher_calls : List Sealing → List CipherCall
cipher_calls [] = []
cipher_calls (s ∷ ss) = sealing_calls s ++ cipher_calls ss

-- demand 3: "the sum of ⌈a/16⌉ + ⌈m/16⌉ + 1 over their sealings, with header length a and text length m" (length_cipher_calls)
unfoldable pub call_total : List Sealing → ℕ
call_total [] = 0
call_total (s ∷ ss) = blocks_of (length s.header) + blocks_of (length s.text) + 1 + call_total ss
