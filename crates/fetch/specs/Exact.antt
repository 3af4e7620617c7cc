-- What fetch, the ciphertext call and the calls in the clear give of a book of the layout, as a statement; proofs/Exact proves it for every kind
-- that can be read. A unit of the book is unit k where k units stand before it.
use Rattle.std.specs.Prelude.{◌≡◌, List, [], ◌∷◌, ◌++◌, ℕ, ◌+◌, ◌≤◌, ◌<◌, length, take, drop, Ok, Err}
use Rattle.suites.specs.declared.refusal.Refusal.TheVariants.{NoSuchUnit}
use Rattle.suites.specs.declared.suite.Suite.{Suite}
use Rattle.suites.specs.Refusal.{number as number_of}
use Rattle.suites.specs.Told.{Told, gives, refuses}
use Rattle.fields.specs.Field.{field_head}
use Rattle.fields.specs.Kind.{Kind}
use Rattle.fields.specs.Unit.{BookUnit, details_of, unit_text}
use Rattle.kinds.specs.declared.Kind.{Kind as BookKind}
use Rattle.kinds.specs.Kind.{kind_of}
use Rattle.format.specs.Layout.{units_bytes, book_bytes, Bookable}
use Rattle.format.specs.Sealings.{opening_fields, unit_header, unit_sealing, sealed_bytes}
use Rattle.walk.specs.declared.clear.Clear.{Clear}
use Rattle.walk.specs.Ciphertext.{ciphertext_place, ciphertext_part}
use Rattle.walk.specs.Clear.{ClearAnswer, code_of, placed_clear, unit_clear}
use Rattle.fetch.specs.Fetch.{fetch_answer, fetch_told, fetch_buffer, placed_answer, placed_told, placed_buffer}

-- fetch of k from the string x hands out the unit u: its source and target at the output's start, and their lengths
pub record HandsOut (key x : List ℕ) (k : ℕ) (u : BookUnit) : Type 0 where
  pub answer : (out : List ℕ) → length u.source + length u.target ≤ length out
      → fetch_told (fetch_answer key x k out) ≡ gives (length u.source ∷ length u.target ∷ [])
  pub output : (out : List ℕ) → length u.source + length u.target ≤ length out
      → fetch_buffer key x k out ≡ u.source ++ (u.target ++ drop (length u.source + length u.target) out)
  -- "output too short for the result: 7"
  pub short : (out : List ℕ) → length out < length u.source + length u.target
      → (fetch_told (fetch_answer key x k out) ≡ refuses 7) × (fetch_buffer key x k out ≡ out)

-- what is said in the clear, by number: nothing but that it is said, or the refusal
abbrev pub clear_told : ClearAnswer → Told
clear_told (Ok clear) = gives []
clear_told (Err why) = refuses (number_of why)

-- "no unit k: 16", and the output stays; the ciphertext part is empty, and nothing is said in the clear
pub record NoUnit (key x : List ℕ) (k : ℕ) : Type 0 where
  pub refused : (out : List ℕ) → (fetch_told (fetch_answer key x k out) ≡ refuses 16) × (fetch_buffer key x k out ≡ out)
  pub empty : (ciphertext_place k x).len ≡ 0
  pub number : clear_told (unit_clear k x) ≡ refuses 16
  pub clear : unit_clear k x ≡ Err NoSuchUnit

-- the same at the close's place, where n units stand before it: who goes from unit to unit ends there
pub record ClosesAt (key x : List ℕ) (n at : ℕ) : Type 0 where
  pub refused : (out : List ℕ) → (placed_told (placed_answer key x n at out) ≡ refuses 16) × (placed_buffer key x n at out ≡ out)
  pub number : clear_told (placed_clear n at x) ≡ refuses 16
  pub clear : placed_clear n at x ≡ Err NoSuchUnit

-- the ciphertext part is the value of field 11 of the unit u: the ciphertext of its sealing, and it stands behind the units before it, the
-- unit's header and the head of that field
pub record PartOf (kind : Kind) (suite : Suite) (key : List ℕ) (number : ℕ) (before : List BookUnit) (u : BookUnit) (x : List ℕ) : Type 0 where
  pub value : ciphertext_part (length before) x
      ≡ take (length (unit_text u.source u.target)) (sealed_bytes suite key (unit_sealing kind suite number (length before) u))
  pub stands : take (ciphertext_place (length before) x).at x
      ≡ opening_fields suite number ++ (units_bytes kind suite key number 0 before
      ++ (unit_header kind (length before) (details_of kind u) ++ field_head 0x11 (length (unit_text u.source u.target))))

-- where units stand: behind the 16 bytes of the opening fields and the units before them
abbrev pub place_behind : Kind → Suite → List ℕ → ℕ → List BookUnit → ℕ
place_behind kind suite key number before = 16 + length (units_bytes kind suite key number 0 before)

-- the same is handed out at the place where the unit stands, with the place where the next one stands
pub record StandsAt (kind : Kind) (suite : Suite) (key : List ℕ) (number : ℕ) (before : List BookUnit) (u : BookUnit) (x : List ℕ) : Type 0 where
  pub answer : (out : List ℕ) → length u.source + length u.target ≤ length out
      → placed_told (placed_answer key x (length before) (place_behind kind suite key number before) out)
      ≡ gives (length u.source ∷ length u.target ∷ place_behind kind suite key number (before ++ u ∷ []) ∷ [])
  pub short : (out : List ℕ) → length out < length u.source + length u.target
      → placed_told (placed_answer key x (length before) (place_behind kind suite key number before) out) ≡ refuses 7
  pub output : (out : List ℕ)
      → placed_buffer key x (length before) (place_behind kind suite key number before) out ≡ fetch_buffer key x (length before) out

-- what a unit's fields say in the clear: its place, its codes, its ciphertext's place, and that of the next one
abbrev pub unit_says : Kind → Suite → List ℕ → ℕ → List BookUnit → BookUnit → List ℕ → Clear
unit_says kind suite key number before u x =
    record {
      at = place_behind kind suite key number before;
      from = code_of u.from;
      to = code_of u.to;
      ciphertext = ciphertext_place (length before) x;
      next = place_behind kind suite key number (before ++ u ∷ []);
    }

-- by a walk, and at its place, without a refusal
pub record SaysClear (kind : Kind) (suite : Suite) (key : List ℕ) (number : ℕ) (before : List BookUnit) (u : BookUnit) (x : List ℕ) : Type 0 where
  pub done : (clear_told (unit_clear (length before) x) ≡ gives [])
      × (clear_told (placed_clear (length before) (place_behind kind suite key number before) x) ≡ gives [])
  pub walked : unit_clear (length before) x ≡ Ok (unit_says kind suite key number before u x)
  pub placed : placed_clear (length before) (place_behind kind suite key number before) x ≡ Ok (unit_says kind suite key number before u x)

pub record FetchesUnits (k : BookKind) : Type 0 where
  -- "opens unit k, writes source and target to the output, returns s and t"
  pub unit : (suite : Suite) (key : List ℕ) (number : ℕ) (before : List BookUnit) (u : BookUnit) (after : List BookUnit)
      → Bookable (kind_of k) suite key number (before ++ u ∷ after)
      → HandsOut key (book_bytes (kind_of k) suite key number (before ++ u ∷ after)) (length before) u
  -- "meeting the close it verifies it and the end of the book, then says 16"
  pub none : (suite : Suite) (key : List ℕ) (number : ℕ) (us : List BookUnit) → Bookable (kind_of k) suite key number us → (n : ℕ) → length us ≤ n
      → NoUnit key (book_bytes (kind_of k) suite key number us) n
  -- "hands back unit k's ciphertext as a part of the book buffer itself"
  pub part : (suite : Suite) (key : List ℕ) (number : ℕ) (before : List BookUnit) (u : BookUnit) (after : List BookUnit)
      → Bookable (kind_of k) suite key number (before ++ u ∷ after)
      → PartOf (kind_of k) suite key number before u (book_bytes (kind_of k) suite key number (before ++ u ∷ after))
  -- and of a caller that goes from one unit to the next
  pub placed : (suite : Suite) (key : List ℕ) (number : ℕ) (before : List BookUnit) (u : BookUnit) (after : List BookUnit)
      → Bookable (kind_of k) suite key number (before ++ u ∷ after)
      → StandsAt (kind_of k) suite key number before u (book_bytes (kind_of k) suite key number (before ++ u ∷ after))
  -- and of one that has no key
  pub clear : (suite : Suite) (key : List ℕ) (number : ℕ) (before : List BookUnit) (u : BookUnit) (after : List BookUnit)
      → Bookable (kind_of k) suite key number (before ++ u ∷ after)
      → SaysClear (kind_of k) suite key number before u (book_bytes (kind_of k) suite key number (before ++ u ∷ after))
  -- until they meet the close
  pub closes : (suite : Suite) (key : List ℕ) (number : ℕ) (us : List BookUnit) → Bookable (kind_of k) suite key number us
      → ClosesAt key (book_bytes (kind_of k) suite key number us) (length us) (place_behind (kind_of k) suite key number us)
