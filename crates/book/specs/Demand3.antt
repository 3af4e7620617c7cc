-- Demand 3, as a statement over the definitions in the contracts of `start`, `add`, `close` and `check`; proofs/Demand3 proves it.
-- It speaks of every kind of book that can be read: the lists of a kind are those of the writer of that kind. The contracts of start, add and
-- close speak of `writer_kind`, that of check of every kind. A comment for each clause has the demand's words. Lists of calls, and what they
-- leave, are those of crates/writer_calls/specs/History.
use Rattle.std.specs.Prelude.{◌≡◌, true, ◌↔◌, ℕ, length, take}
use mathlib.Core.List.{List, [], ◌∷◌, map, Nodup}
use Rattle.bits.specs.Bytes.{Bytes}
use Rattle.suites.specs.Told.{gives}
use Rattle.fields.specs.Each.{Each}
use Rattle.fields.specs.Kind.{Kind, writer_kind}
use Rattle.format.specs.Sealings.{cipher_calls, call_total}
use Rattle.fields.specs.Unit.{BookUnit}
use Rattle.kinds.specs.declared.Kind.{Kind as BookKind}
use Rattle.kinds.specs.Kind.{kind_of, newest}
use Rattle.writer_calls.specs.History.{Call, Callable, State, Start, started, after_calls, units, has_close, sealings}
use Rattle.writer_calls.specs.Left.{WriterHalf}
use Rattle.checker.specs.Check.{check_answer, check_told}

-- "Take every list of add and close calls, refused ones included, from an accepted start. Each call gets the writer last handed back and the
-- start's buffer as the last call left it, and nobody else writes that buffer meanwhile."
pub record History (kind : Kind) : Type 0 where
  -- a start that was accepted, under any suite, key, book number and buffer
  pub start : Start
  -- any calls, with any bytes
  pub calls : List Call
  pub callable : Each (Callable kind) calls

module _ {kind : Kind} (h : History kind) where
  -- "after every such list": the writer and the buffer
  abbrev pub after : State
  after = after_calls kind h.calls (started h.start)

  -- "the units of a list are, in order, the language pair, source and target of each accepted add"
  abbrev pub units_added : List BookUnit
  units_added = units kind h.calls (started h.start)

  -- the string that it leaves "in its buffer from the first byte up to the writer's place"
  abbrev pub leaves : List ℕ
  leaves = take after.writer.place after.buffer

-- "some such list under that key, with an accepted close, leaves that string"
pub record LeavesBook {kind : Kind} (h : History kind) (key x : List ℕ) : Type 0 where
  pub under : h.start.key ≡ key
  pub closed : has_close kind h.calls (started h.start) ≡ true
  pub string : leaves h ≡ x

pub record Demand3 : Type 0 where
  -- (1) "After every such list, no two cipher calls of all its accepted calls use the same tweak."
  pub apart : (k : BookKind) (h : History (kind_of k))
      → Nodup (map (λ c. c.tweak) (cipher_calls (sealings (kind_of k) h.calls (started h.start))))
  -- (2) "The writer's call total is then the sum of ⌈a/16⌉ + ⌈m/16⌉ + 1 over their sealings, with header length a and text length m":
  -- and that is the length of their call lists
  pub total : (k : BookKind) (h : History (kind_of k))
      → ((after h).writer.total ≡ call_total (sealings (kind_of k) h.calls (started h.start)))
      × ((after h).writer.total ≡ length (cipher_calls (sealings (kind_of k) h.calls (started h.start))))
  -- (3) "For every key and every byte string, checking accepts exactly when some such list under that key, with an accepted close, leaves that
  -- string": a list of some kind that can be read; "checking, where it accepts, returns the unit count and call total of the writer that leaves
  -- the string"
  pub exact : (key x : List ℕ) → Bytes key → Bytes x → (n t : ℕ)
      → (check_told (check_answer key x) ≡ gives (n ∷ t ∷ []))
      ↔ ((k : BookKind) × (h : History (kind_of k)) × LeavesBook h key x × ((after h).writer.count ≡ n) × ((after h).writer.total ≡ t))
  -- (4) "All such lists under that key that leave the same string have the same units in the same order.": kind by kind, closed or not
  pub one : (k : BookKind) (h₁ h₂ : History (kind_of k))
      → h₁.start.key ≡ h₂.start.key → leaves h₁ ≡ leaves h₂ → units_added h₁ ≡ units_added h₂
  -- so a string that check accepts has one list of units, whatever the kinds of the lists that leave it: "each has one list of units"
  pub one_book : (key x : List ℕ) (k₁ k₂ : BookKind) (h₁ : History (kind_of k₁)) (h₂ : History (kind_of k₂))
      → LeavesBook h₁ key x → LeavesBook h₂ key x → units_added h₁ ≡ units_added h₂
  -- Besides the demand's words: what stands before the writer's place and behind it, that the sealings are those of the bytes there, and that
  -- every list of allowed units can be written; and by number how a start and each call of a list are answered. Without it a writer and a
  -- checker that refuse all would do.
  pub written : (k : BookKind) → WriterHalf (kind_of k)
  -- and that the kind in the contracts of start, add and close is one of these
  pub newest : kind_of newest ≡ writer_kind
