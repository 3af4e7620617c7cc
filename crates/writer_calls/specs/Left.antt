-- The writer's half of demand 3, as a statement: what every list of calls leaves, refused ones included, and which books can be
-- written. proofs/Left proves it for every kind that is well formed.
use Rattle.std.specs.Prelude.{◌≡◌, Bool, true, not, cond, ℕ, ◌+◌, ◌≤◌, eqb, leb, ltb, length, take, drop}
use mathlib.Core.List.{List, [], ◌∷◌, ◌++◌, map, Nodup}
use Rattle.suites.specs.declared.suite.Suite.{Suite}
use Rattle.suites.specs.Suite.{listed}
use Rattle.suites.specs.Told.{Told, gives, due, told}
use Rattle.fields.specs.Each.{Each, EachFrom}
use Rattle.fields.specs.Kind.{Kind}
use Rattle.fields.specs.Languages.{pair_allowed}
use Rattle.kinds.specs.Lengths.{unit_length, close_length}
use Rattle.format.specs.Layout.{units_bytes, close_bytes, book_length, Bookable}
use Rattle.format.specs.Sealings.{Sealing, opening_fields, unit_sealings, close_sealing, cipher_calls, call_total}
use Rattle.fields.specs.Unit.{BookUnit, Allowed, in_range}
use Rattle.writer_state.specs.Tests.{start_outcome, valid}
use Rattle.writer_calls.specs.History.{
  Call,
  add,
  close,
  Callable,
  State,
  outcome,
  Start,
  started,
  after_calls,
  units,
  has_close,
  sealings,
}

-- "Before the writer's place stand fields 01 and 02, the unit of each accepted add in order, then an accepted close": under what the
-- start was given, with these units, and closed or not
unfoldable pub laid_out : Kind → Start → List BookUnit → Bool → List ℕ
laid_out kind s us closed =
    opening_fields s.suite s.number
    ++ (units_bytes kind s.suite s.key s.number 0 us ++ cond closed (close_bytes kind s.suite s.key s.number (length us)) [])

-- the sealings of these units, and of an accepted close
unfoldable pub sealed_of : Kind → Start → List BookUnit → Bool → List Sealing
sealed_of kind s us closed =
    unit_sealings kind s.suite s.number 0 us ++ cond closed (close_sealing kind s.suite s.number (length us) ∷ []) []

-- how a start is answered, by number: "Start: 1, 2, 7", under a key of k bytes and with a buffer of room bytes
abbrev pub start_answer_to : Suite → ℕ → ℕ → Told
start_answer_to suite k room =
    due (not (listed suite.cipher suite.steps)) 1
    (due (not (eqb k 16)) 2
    (due (not (leb 16 room)) 7
    (gives [])))

-- how a call is answered in a list of calls, by number: "Add: 9 to 13, 7", "Close: 9, 10, 7", of which 9 is never due. The writer is closed or
-- not, has so many units, and is at a place of a buffer of room bytes.
abbrev pub answer_to : Kind → Bool → ℕ → ℕ → ℕ → Call → Told
answer_to kind closed count place room (add u) =
    due closed 10
    (due (not (pair_allowed u.from u.to)) 11
    (due (not (in_range (length u.source) (length u.target))) 12
    (due (not (ltb count kind.unit_limit)) 13
    (due (not (leb (place + unit_length kind (length u.source) (length u.target)) room)) 7
    (gives [])))))
answer_to kind closed count place room close =
    due closed 10
    (due (not (leb (place + close_length kind) room)) 7
    (gives []))

-- after the calls cs: their units us, whether a close was accepted, their sealings ss, and the state e
pub record Leaves (kind : Kind) (s : Start) (us : List BookUnit) (closed : Bool) (ss : List Sealing) (e : State) : Type 0 where
  pub before : take e.writer.place e.buffer ≡ laid_out kind s us closed
  -- "the place is the length of these"
  pub place : e.writer.place ≡ length (laid_out kind s us closed)
  -- "other bytes stay"
  pub behind : drop e.writer.place e.buffer ≡ drop e.writer.place s.buffer
  pub room : length e.buffer ≡ length s.buffer
  -- the writer still has the start's suite, key and book number
  pub suite : e.writer.suite ≡ s.suite
  pub key : e.writer.key ≡ s.key
  pub number : e.writer.number ≡ s.number
  pub closes : e.writer.closed ≡ closed
  pub count : e.writer.count ≡ length us
  -- the writer is such that 9 is not due
  pub sound : valid kind e.writer (length e.buffer) ≡ true
  -- what each call is answered next
  pub answers : (c : Call) → told (outcome kind c e) ≡ answer_to kind closed (length us) e.writer.place (length e.buffer) c
  -- the units are such as a book may have, and not too many
  pub bookable : Bookable kind s.suite s.key s.number us
  -- the sealings are theirs, and the close's
  pub sealed : ss ≡ sealed_of kind s us closed
  -- the call total is the length of the call lists; demand 3: "the sum of ⌈a/16⌉ + ⌈m/16⌉ + 1 over their sealings"
  pub total : e.writer.total ≡ length (cipher_calls ss)
  pub sum : length (cipher_calls ss) ≡ call_total ss
  -- demand 3: "no two cipher calls of all its accepted calls use the same tweak"
  pub apart : Nodup (map (λ c. c.tweak) (cipher_calls ss))

-- the calls that write a book of these units
abbrev pub writing : List BookUnit → List Call
writing us = map add us ++ close ∷ []

pub record WriterHalf (kind : Kind) : Type 0 where
  -- whatever is given to a start
  pub starts : (suite : Suite) (k room : ℕ) → told (start_outcome suite k room) ≡ start_answer_to suite k room
  -- whatever the calls
  pub leaves : (s : Start) (cs : List Call) → Each (Callable kind) cs
      → Leaves kind s (units kind cs (started s)) (has_close kind cs (started s)) (sealings kind cs (started s)) (after_calls kind cs (started s))
  -- every list of allowed units that is not too long, and for which the buffer has room, can be written: each add is accepted, and the
  -- close
  pub writes : (s : Start) (us : List BookUnit) → EachFrom (Allowed kind) 0 us → length us ≤ kind.unit_limit → book_length kind us ≤ length s.buffer
      → (units kind (writing us) (started s) ≡ us) × (has_close kind (writing us) (started s) ≡ true)
