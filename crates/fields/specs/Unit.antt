-- Units and their texts.
use Rattle.std.specs.Prelude.{◌≡◌, Bool, true, ◌&&◌, List, ◌++◌, ℕ, ◌+◌, ◌-◌, ◌*◌, leb, length, take, drop}
use Rattle.bits.specs.Bytes.{Bytes, big_endian, number_of}
use Rattle.fields.specs.Kind.{Kind}
use Rattle.fields.specs.Languages.{pair_allowed}

-- the scope's unit: "the language pair, source and target"
pub record BookUnit : Type 0 where
  -- the codes of source and target language
  pub from : List ℕ
  pub to : List ℕ
  pub source : List ℕ
  pub target : List ℕ

abbrev pub unit_of : List ℕ → List ℕ → List ℕ → List ℕ → BookUnit
unit_of from to source target = record { from = from; to = to; source = source; target = target }

-- what a unit's header says besides its number, in a book of a kind: "source and target language"; and how many bytes that has
unfoldable pub details_of : Kind → BookUnit → List ℕ
details_of kind u = u.from ++ u.to

abbrev pub details_length : Kind → ℕ
details_length kind = 2 * kind.code_bytes

-- "s is 1 to 4,096, t 0 to 4,096"; else "s or t out of range"
abbrev pub in_range : ℕ → ℕ → Bool
in_range s t = leb 1 s && (leb s 4096 && leb t 4096)

-- "All numbers in values and texts are big-endian too." "The text is a two-byte source length s, source, target (t bytes)"
unfoldable pub unit_text : List ℕ → List ℕ → List ℕ
unit_text source target = big_endian 2 (length source) ++ (source ++ target)

-- the source length that a text states, the source and the target
unfoldable pub source_length : List ℕ → ℕ
source_length text = number_of (take 2 text)

unfoldable pub source_of : List ℕ → List ℕ
source_of text = take (source_length text) (drop 2 text)

unfoldable pub target_of : List ℕ → List ℕ
target_of text = drop (2 + source_length text) text

-- "t is what s leaves of the text, and an s longer than the bytes after it is out of range": of a text of m bytes that states s
abbrev pub text_in_range : ℕ → ℕ → Bool
text_in_range m s = leb (2 + s) m && in_range s (m - (2 + s))

-- bytes that may be handed to a writer of a kind as a unit, allowed or not: a code has as many bytes as the kind's
pub record Given (k : Kind) (u : BookUnit) : Type 0 where
  pub from_long : length u.from ≡ k.code_bytes
  pub to_long : length u.to ≡ k.code_bytes
  pub from_bytes : Bytes u.from
  pub to_bytes : Bytes u.to
  pub source_bytes : Bytes u.source
  pub target_bytes : Bytes u.target

-- a unit that a book of the kind may have; n is the unit's number
pub record Allowed (k : Kind) (n : ℕ) (u : BookUnit) : Type 0 where
  pub given : Given k u
  pub languages : pair_allowed u.from u.to ≡ true
  pub range : in_range (length u.source) (length u.target) ≡ true
