-- Demand 3 for the functions that C calls, as a statement over their contracts; proofs/ForC proves it. C keeps the writer as 64 bytes. The
-- writer that the bytes hold and the buffer are those of a list of calls of demand 3, so that all of demand 3 holds of what C has.
use Rattle.std.specs.Prelude.{◌≡◌, true, ◌↔◌, ℕ, ◌^◌, ◌<◌, length, take}
use mathlib.Core.List.{List, [], ◌∷◌, map, Nodup}
use Rattle.bits.specs.Bytes.{Bytes}
use Rattle.suites.specs.Told.{gives, told}
use Rattle.fields.specs.Kind.{Kind, writer_kind}
use Rattle.kinds.specs.Kind.{kind_of, book_kind}
use Rattle.format.specs.Sealings.{cipher_calls, call_total}
use Rattle.suites.specs.declared.suite.Suite.{Suite}
use Rattle.writer_state.specs.declared.Writer.{Writer}
use Rattle.writer_calls.specs.Left.{start_answer_to}
use Rattle.writer_calls.specs.History.{Call, State, outcome, after_call, started, has_close, sealings}
use Rattle.writer_bytes.specs.WriterBytes.{writer_of}
use Rattle.checker.specs.Check.{check_answer, check_told}
use Rattle.book.specs.Demand3.{History, after, units_added}
use Rattle.c_writer.specs.Written.{Kept, state_of, CallsForC, StartsForC}

-- calls of sb_add and sb_close one after the other, each as its contract says: what is kept before them, the numbers that they return, and
-- what is kept after them
pub data Run : List Call → Kept → List ℕ → Kept → Type 0 where
  none : {k : Kept} → Run [] k [] k
  more : {c : Call} {cs : List Call} {k l m : Kept} {r : ℕ} {rs : List ℕ} → CallsForC c k r l → Run cs l rs m → Run (c ∷ cs) k (r ∷ rs) m

-- an sb_start that returned 0, and such calls behind it
pub record InC (h : History writer_kind) : Type 0 where
  -- a buffer that can be lent
  pub fits : length h.start.buffer < 2 ^ 64
  pub begun : Kept
  pub starts : StartsForC h.start.suite h.start.key h.start.number h.start.buffer 0 begun
  pub numbers : List ℕ
  pub end : Kept
  pub run : Run h.calls begun numbers end

-- what the calls of a list are answered, by number
unfoldable pub numbers_of : Kind → List Call → State → List ℕ
numbers_of kind [] s = []
numbers_of kind (c ∷ cs) s = (told (outcome kind c s)).number ∷ numbers_of kind cs (after_call kind c s)

module _ {h : History writer_kind} (l : InC h) where
  -- the writer that the 64 bytes hold: what sb_place, sb_units and sb_calls tell of
  abbrev pub holds : Writer
  holds = writer_of l.end.writer

  -- the string that is left "in its buffer from the first byte up to the writer's place"
  abbrev pub left : List ℕ
  left = take holds.place l.end.buffer

-- "some such list under that key, with an accepted close, leaves that string"
pub record LeavesForC {h : History writer_kind} (l : InC h) (key x : List ℕ) : Type 0 where
  pub under : h.start.key ≡ key
  pub closed : has_close writer_kind h.calls (started h.start) ≡ true
  pub string : left l ≡ x

pub record ForC : Type 0 where
  -- "Start: 1, 2, 7": what sb_start returns, whatever it is given
  pub starts : {suite : Suite} {key : List ℕ} {number : ℕ} {buf : List ℕ} {r : ℕ} {k : Kept} → StartsForC suite key number buf r k
      → r ≡ (start_answer_to suite (length key) (length buf)).number
  -- every list of calls of demand 3 on a buffer that can be lent can be made by C
  pub every : (h : History writer_kind) → length h.start.buffer < 2 ^ 64 → InC h
  -- the writer that the bytes hold and the buffer are that list's, and so is what each call returns
  pub same : (h : History writer_kind) (l : InC h) → state_of l.end ≡ after h
  pub returns : (h : History writer_kind) (l : InC h) → l.numbers ≡ numbers_of writer_kind h.calls (started h.start)
  -- so that demand 3 holds of it: (1) no two cipher calls use the same tweak
  pub apart : (h : History writer_kind) → InC h
      → Nodup (map (λ c. c.tweak) (cipher_calls (sealings writer_kind h.calls (started h.start))))
  -- (2) what sb_calls tells is the sum of ⌈a/16⌉ + ⌈m/16⌉ + 1 over their sealings, and the length of their call lists
  pub total : (h : History writer_kind) (l : InC h)
      → ((holds l).total ≡ call_total (sealings writer_kind h.calls (started h.start)))
      × ((holds l).total ≡ length (cipher_calls (sealings writer_kind h.calls (started h.start))))
  -- (3) checking accepts a string of the writer's kind exactly when such a list under that key, with an accepted close, leaves it, and returns
  -- what sb_units and sb_calls then tell
  pub exact : (key x : List ℕ) → Bytes key → Bytes x → length x < 2 ^ 64 → kind_of (book_kind x) ≡ writer_kind → (n t : ℕ)
      → (check_told (check_answer key x) ≡ gives (n ∷ t ∷ []))
      ↔ ((h : History writer_kind) × (l : InC h) × LeavesForC l key x × ((holds l).count ≡ n) × ((holds l).total ≡ t))
  -- (4) two lists under one key that leave the same string have the same units
  pub one : (h₁ h₂ : History writer_kind) (l₁ : InC h₁) (l₂ : InC h₂) → h₁.start.key ≡ h₂.start.key → left l₁ ≡ left l₂
      → units_added h₁ ≡ units_added h₂
