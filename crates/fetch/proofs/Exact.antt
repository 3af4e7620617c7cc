-- Fetch and the ciphertext call give exactly the units of every book of the layout, and 16 past them.
use Rattle.suites.specs.Answer.{Answer}
use Rattle.parser.specs.declared.frame.Frame.TheVariants.{Close, Unit}
use Rattle.std.specs.Prelude.{Ok, Err}
use mathlib.Core.Path.{◌≡◌, sym, ap, ◌∙◌}
use mathlib.Core.List.{List, [], ◌∷◌, ◌++◌}
use Prim.Native.Nat.{ℕ, ◌+◌, ◌^◌, ◌≤◌, ◌<◌}
use native.Mathlib.Nat.{zero-add}
use native.Mathlib.Omega.{arith}
use lib.ListN.{length, take, drop, length-append}
use lib.Seq.{take_at, drop_at}
use Rattle.suites.specs.declared.refusal.Refusal.TheVariants.{OutputTooShort, NoSuchUnit}
use Rattle.suites.specs.declared.suite.Suite.{Suite}
use Rattle.fields.specs.Field.{field}
use Rattle.fields.specs.Kind.{Kind}
use Rattle.fields.specs.Unit.{BookUnit, Allowed, unit_text}
use Rattle.fields.proofs.Each.{each_from_left, each_from_at}
use Rattle.fields.proofs.Texts.{range_told}
use Rattle.format.specs.Layout.{unit_bytes, close_bytes, units_bytes, book_bytes, Bookable}
use Rattle.format.specs.Sealings.{opening_fields, unit_sealing, sealed_bytes}
use Rattle.format.proofs.Lengths.{length_opening_fields, units_bytes_snoc}
use Rattle.sealing.specs.Seal.{written}
use Rattle.kinds.specs.declared.Kind.{Kind as BookKind}
use Rattle.kinds.specs.Kind.{kind_of, book_kind}
use Rattle.kinds.specs.Lengths.{ciphertext_at, frame_length}
use Rattle.kinds.proofs.Formed.{formed}
use Rattle.parser.specs.Frame.{most_units, frame_at}
use Rattle.parser.proofs.Frames.{readable}
use Rattle.opening_fields.specs.Opening.{after_opening}
use Rattle.checker.proofs.BookKinds.{own_kind, unit_kind}
use Rattle.walk.specs.declared.clear.Clear.{Clear}
use Rattle.walk.specs.declared.ciphertext.Part.{Part}
use Rattle.walk.specs.Walk.{walk_to}
use Rattle.walk.specs.Ciphertext.{ciphertext_place, ciphertext_part}
use Rattle.walk.specs.Clear.{ClearAnswer, code_of, clear_of, placed_clear_of, placed_clear, unit_clear_of, unit_clear}
use Rattle.walk.proofs.Places.{part_said, clear_part}
use Rattle.fetch.specs.Fetch.{handed_out, room_test, fetch_outcome, fetch_text, placed_outcome, placed_text, placed_report, placed_told, next_of, fetch_told, FetchAnswer, fetched_lengths}
use Rattle.fetch.specs.Fetch.{fetch_answer_of, fetch_answer, fetch_buffer_of, fetch_buffer, placed_answer_of, placed_answer, placed_buffer_of, placed_buffer}
use Rattle.fetch.specs.Hands.{with_next}
use Rattle.fetch.specs.Exact.{HandsOut, NoUnit, ClosesAt, PartOf, place_behind, StandsAt, unit_says, clear_told, SaysClear, FetchesUnits}
use Rattle.fetch.proofs.Cut.{behind, book_cut, front, length_front, length_ciphertext, front_is}
use Rattle.fetch.proofs.Written.{unit_frame_lem, unit_outcome_lem, unit_text_lem, unit_codes, close_frame, close_outcome_lem}
use Rattle.fetch.proofs.Reached.{end_place, unit_length_lem, walk_ends, walk_closes}
use Rattle.fetch.proofs.Arrived.{outcome_there, text_there, there_whole, placed_there, placed_clear_there, clear_there}
use Rattle.fetch.proofs.Arrived.{refused_as, fetched, too_short, hands_out}
use Rattle.fetch.proofs.Handed.{fetch_placed_lem}

module _ (q : BookKind) (suite : Suite) (key : List ℕ) (number : ℕ) where
  abbrev kind : Kind
  kind = kind_of q

  -- a unit of a book
  module _ (before : List BookUnit) (u : BookUnit) (after : List BookUnit) (b : Bookable (kind_of q) suite key number (before ++ u ∷ after)) where
    abbrev n : ℕ
    n = length before

    abbrev m : ℕ
    m = length (unit_text u.source u.target)

    -- the units before it, in bytes, and the book from it on
    abbrev units : List ℕ
    units = units_bytes kind suite key number 0 before

    abbrev rest : List ℕ
    rest = behind kind suite key number before u after

    abbrev z : List ℕ
    z = unit_bytes kind suite key number n u ++ rest

    -- the book, cut before the unit
    abbrev x : List ℕ
    x = opening_fields suite number ++ (units ++ z)

    own : book_kind x ≡ q
    own = sym (ap book_kind (book_cut kind suite key number before u after)) ∙ unit_kind q suite key number before u after

    few : n < most_units
    few = omega (arith, length-append before (u ∷ after), (readable q).limit, b.few)

    fits : n < 256 ^ (kind_of q).number_bytes
    fits = omega (arith, length-append before (u ∷ after), (readable q).limit, b.few)

    allowed : Allowed (kind_of q) n u
    allowed = rw zero-add at (each_from_at before u after b.units)

    ends : walk_to kind n (units ++ z) ≡ end_place kind suite key number before
    ends =
        walk_ends kind suite key number b.number_fits b.key_long b.key_bytes (formed q) before z (each_from_left before (u ∷ after) b.units)
        (omega (arith, few)) (omega (arith, fits))

    small : length u.source < 65536
    small = omega (arith, range_told (length u.source) (length u.target) allowed.range)

    outcome-is : (r : ℕ) → fetch_outcome (kind_of (book_kind x)) key x n r ≡ room_test (unit_text u.source u.target) r
    outcome-is r =
        ap (λ (p : BookKind). fetch_outcome (kind_of p) key x n r) own
        ∙ outcome_there kind suite key number b.number_fits b.listed_suite before z n ends b.key_long r
        ∙ unit_outcome_lem kind suite key number b.number_fits b.key_long b.key_bytes n (formed q) fits few u allowed rest r

    text-is : fetch_text (kind_of (book_kind x)) key x n ≡ unit_text u.source u.target
    text-is =
        ap (λ (p : BookKind). fetch_text (kind_of p) key x n) own
        ∙ text_there kind suite key number b.number_fits b.listed_suite before z n ends
        ∙ unit_text_lem kind suite key number b.number_fits b.key_long b.key_bytes n (formed q) fits few u allowed rest

    unit-fetched : HandsOut key (book_bytes (kind_of q) suite key number (before ++ u ∷ after)) n u
    unit-fetched = rw (book_cut kind suite key number before u after) (hands_out key x n u small outcome-is text-is)

    -- what stands in the clear, and where the next unit stands
    framed : frame_at kind n z ≡ Ok (Unit m)
    framed = unit_frame_lem kind suite key number b.number_fits b.key_long b.key_bytes n (formed q) fits few u allowed rest

    next-is : 16 + length units + frame_length kind m ≡ place_behind (kind_of q) suite key number (before ++ u ∷ [])
    next-is =
        let c = unit_bytes kind suite key number (0 + n) u in
        omega (
          arith,
          ap length (units_bytes_snoc kind suite key number 0 before u),
          length-append units c,
          unit_length_lem kind suite key number (0 + n) u (rw zero-add allowed),
        )

    abbrev said : Clear
    said =
        record {
          at = 16 + length units;
          from = code_of u.from;
          to = code_of u.to;
          ciphertext = record { at = 16 + length units + ciphertext_at kind; len = m };
          next = place_behind (kind_of q) suite key number (before ++ u ∷ []);
        }

    clear-is : clear_of kind (16 + length units) z (frame_at kind n z) ≡ Ok said
    clear-is =
        let codes = unit_codes kind suite key number b.number_fits b.key_long b.key_bytes n (formed q) fits few u allowed rest in
        ap (clear_of kind (16 + length units) z) framed
        ∙ (λ i. Ok (record {
          at = 16 + length units;
          from = code_of (codes.0 i);
          to = code_of (codes.1 i);
          ciphertext = record { at = 16 + length units + ciphertext_at kind; len = m };
          next = next-is i;
        }))

    there : drop (16 + length units) x ≡ z
    there = there_whole kind suite key number b.number_fits b.listed_suite before z n ends

    walked-clear : unit_clear n x ≡ Ok said
    unfolding unit_clear
    walked-clear =
        ap (λ (p : BookKind). unit_clear_of (kind_of p) n x) own
        ∙ clear_there kind suite key number b.number_fits b.listed_suite before z n ends
        ∙ clear-is

    placed-clear : placed_clear n (16 + length units) x ≡ Ok said
    unfolding placed_clear
    placed-clear =
        ap (λ (p : BookKind). placed_clear_of (kind_of p) n (16 + length units) x) own
        ∙ placed_clear_there kind suite key number b.number_fits b.listed_suite before z n ends n
        ∙ clear-is

    -- where its ciphertext stands
    part-is : ciphertext_place n x ≡ said.ciphertext
    part-is = sym (clear_part n x) ∙ ap part_said walked-clear

    unit-part : PartOf (kind_of q) suite key number before u (book_bytes (kind_of q) suite key number (before ++ u ∷ after))
    unfolding ciphertext_part
    unit-part =
        let head = front kind suite key number before u in
        let long = length_front kind suite key number before u allowed in
        let sealed = sealed_bytes suite key (unit_sealing kind suite number n u) in
        let tail = field 0x12 (drop m sealed) ++ rest in
        let whole = front_is kind suite key number before u rest in
        let at = said.ciphertext.at in
        rw (book_cut kind suite key number before u after)
        (record {
          value =
              (λ i. take (part-is i).len (drop (part-is i).at (whole i)))
              ∙ ap (take m) (drop_at head (take m sealed ++ tail) at long)
              ∙ take_at (take m sealed) tail m (length_ciphertext kind suite key number before u);
          stands = (λ i. take (part-is i).at (whole i)) ∙ take_at head (take m sealed ++ tail) at long;
        })

    says : said ≡ unit_says (kind_of q) suite key number before u x
    says = λ i. record {
      at = 16 + length units;
      from = code_of u.from;
      to = code_of u.to;
      ciphertext = sym part-is i;
      next = place_behind (kind_of q) suite key number (before ++ u ∷ []);
    }

    unit-clear : SaysClear (kind_of q) suite key number before u (book_bytes (kind_of q) suite key number (before ++ u ∷ after))
    unit-clear =
        rw (book_cut kind suite key number before u after)
        (record {
          done = (ap clear_told walked-clear, ap clear_told placed-clear);
          walked = walked-clear ∙ (λ i. Ok (says i));
          placed = placed-clear ∙ (λ i. Ok (says i));
        })

    -- fetch by its place: the walk ends there
    reached : walk_to kind n (after_opening x) ≡ end_place kind suite key number before
    unfolding after_opening
    reached = ap (walk_to kind n) (drop_at (opening_fields suite number) (units ++ z) 16 (length_opening_fields suite number)) ∙ ends

    -- the next unit, from where the walk ends
    next-there : let p = walk_to kind n (after_opening x) in
        next_of kind (16 + p.at) (frame_at kind p.number (drop (16 + p.at) x)) ≡ place_behind (kind_of q) suite key number (before ++ u ∷ [])
    next-there =
        (λ i. next_of kind (16 + (reached i).at) (frame_at kind (reached i).number (drop (16 + (reached i).at) x)))
        ∙ ap (λ (y : List ℕ). next_of kind (16 + length units) (frame_at kind n y)) there
        ∙ ap (next_of kind (16 + length units)) framed
        ∙ next-is

    -- at its place the answer of fetch, with the place of the next one
    placed_is : (out : List ℕ) (a : FetchAnswer) → fetch_answer key x n out ≡ a
        → placed_told (placed_answer key x n (16 + length units) out)
        ≡ placed_told (with_next a (place_behind (kind_of q) suite key number (before ++ u ∷ [])))
    unfolding placed_answer fetch_answer
    placed_is out a e =
        ap placed_told
        (ap (λ (p : BookKind). placed_answer_of (kind_of p) key x n (16 + length units) out) own
        ∙ sym (λ i. placed_answer_of kind key x (reached i).number (16 + (reached i).at) out)
        ∙ (fetch_placed_lem kind key x n out).0
        ∙ (λ i. with_next (fetch_answer_of (kind_of (sym own i)) key x n out) (next-there i))
        ∙ ap (λ (r : FetchAnswer). with_next r (place_behind (kind_of q) suite key number (before ++ u ∷ []))) e)

    unit-placed : StandsAt (kind_of q) suite key number before u (book_bytes (kind_of q) suite key number (before ++ u ∷ after))
    unfolding placed_buffer fetch_buffer
    unit-placed =
        rw (book_cut kind suite key number before u after)
        (record {
          answer = λ out h.
              placed_is out (fetched_lengths (length u.source) (length u.target)) (fetched key x n u small outcome-is text-is out h);
          short = λ out h. placed_is out (Err OutputTooShort) (too_short key x n u small outcome-is text-is out h).0;
          output = λ out.
              ap (λ (p : BookKind). placed_buffer_of (kind_of p) key x n (16 + length units) out) own
              ∙ sym (λ i. placed_buffer_of kind key x (reached i).number (16 + (reached i).at) out)
              ∙ (fetch_placed_lem kind key x n out).1
              ∙ ap (λ (p : BookKind). fetch_buffer_of (kind_of p) key x n out) (sym own);
        })

  -- past the units of a book
  module _ (us : List BookUnit) (b : Bookable (kind_of q) suite key number us) (k : ℕ) (past : length us ≤ k) where
    abbrev c : List ℕ
    c = close_bytes kind suite key number (length us)

    close-fits : length us < 256 ^ (kind_of q).number_bytes
    close-fits = omega (arith, (formed q).numbers_fit, b.few)

    closed : frame_at kind (length us) c ≡ Ok Close
    closed = close_frame kind suite key number b.number_fits b.key_long b.key_bytes (length us) (formed q) close-fits

    close-ends : walk_to kind k (units_bytes kind suite key number 0 us ++ c) ≡ end_place kind suite key number us
    close-ends =
        walk_closes kind suite key number b.number_fits b.key_long b.key_bytes (formed q) us c b.units
        (omega (arith, (readable q).limit, b.few)) (omega (arith, close-fits)) closed k past

    none-outcome : (r : ℕ) → fetch_outcome (kind_of q) key (book_bytes (kind_of q) suite key number us) k r ≡ Err NoSuchUnit
    unfolding book_bytes
    none-outcome r =
        outcome_there kind suite key number b.number_fits b.listed_suite us c k close-ends b.key_long r
        ∙ close_outcome_lem kind suite key number b.number_fits b.key_long b.key_bytes (length us) (formed q) close-fits r

    none-clear : unit_clear_of (kind_of q) k (book_bytes (kind_of q) suite key number us) ≡ Err NoSuchUnit
    unfolding book_bytes
    none-clear =
        clear_there kind suite key number b.number_fits b.listed_suite us c k close-ends
        ∙ ap (clear_of kind (16 + length (units_bytes kind suite key number 0 us)) c) closed

    -- the close at its place
    close-placed : (r : ℕ)
        → placed_outcome (kind_of q) key (book_bytes (kind_of q) suite key number us) (length us) (place_behind (kind_of q) suite key number us) r
        ≡ Err NoSuchUnit
    unfolding book_bytes
    close-placed r =
        placed_there kind suite key number b.number_fits b.listed_suite us c k close-ends b.key_long (length us) r
        ∙ close_outcome_lem kind suite key number b.number_fits b.key_long b.key_bytes (length us) (formed q) close-fits r

    close-clear : placed_clear_of (kind_of q) (length us) (place_behind (kind_of q) suite key number us) (book_bytes (kind_of q) suite key number us)
        ≡ Err NoSuchUnit
    unfolding book_bytes
    close-clear =
        placed_clear_there kind suite key number b.number_fits b.listed_suite us c k close-ends (length us)
        ∙ ap (clear_of kind (16 + length (units_bytes kind suite key number 0 us)) c) closed

-- by the book's own kind
module _ (q : BookKind) (suite : Suite) (key : List ℕ) (number : ℕ) (us : List BookUnit) (b : Bookable (kind_of q) suite key number us) (k : ℕ)
    (past : length us ≤ k) where
  none-fetched : NoUnit key (book_bytes (kind_of q) suite key number us) k
  unfolding unit_clear
  none-fetched =
      let x : List ℕ = book_bytes (kind_of q) suite key number us in
      let own = own_kind q suite key number us b in
      let p : BookKind = book_kind x in
      let clear : unit_clear_of (kind_of p) k x ≡ Err NoSuchUnit =
      ap (unit_clear_of (kind_of p) k) (sym own.bytes) ∙ none-clear p suite key number us own.bookable k past in
      let refused : (out : List ℕ) → (fetch_answer key x k out ≡ Err NoSuchUnit) × (fetch_buffer key x k out ≡ out) = λ out.
      refused_as key x k NoSuchUnit out
      (ap (λ (y : List ℕ). fetch_outcome (kind_of p) key y k (length out)) (sym own.bytes)
      ∙ none-outcome p suite key number us own.bookable k past (length out)) in
      record {
        refused = λ out. (ap fetch_told (refused out).0, (refused out).1);
        empty = sym (ap (λ (r : Part). r.len) (clear_part k x)) ∙ ap (λ (r : ClearAnswer). (part_said r).len) clear;
        number = ap clear_told clear;
        clear = clear;
      }

module _ (q : BookKind) (suite : Suite) (key : List ℕ) (number : ℕ) (us : List BookUnit) (b : Bookable (kind_of q) suite key number us) where
  -- where the close stands
  abbrev at : ℕ
  at = place_behind (kind_of q) suite key number us

  abbrev y : List ℕ
  y = book_bytes (kind_of q) suite key number us

  at_own : at ≡ place_behind (kind_of (book_kind y)) suite key number us
  at_own = sym (ap (λ (l : List ℕ). 16 + length l) (own_kind q suite key number us b).units)

  closes-outcome : (r : ℕ) → placed_outcome (kind_of (book_kind y)) key y (length us) at r ≡ Err NoSuchUnit
  closes-outcome r =
      let own = own_kind q suite key number us b in
      (λ i. placed_outcome (kind_of (book_kind y)) key (sym own.bytes i) (length us) (at_own i) r)
      ∙ close-placed (book_kind y) suite key number us own.bookable (length us) (omega arith) r

  closes-clear : placed_clear_of (kind_of (book_kind y)) (length us) at y ≡ Err NoSuchUnit
  closes-clear =
      let own = own_kind q suite key number us b in
      (λ i. placed_clear_of (kind_of (book_kind y)) (length us) (at_own i) (sym own.bytes i))
      ∙ close-clear (book_kind y) suite key number us own.bookable (length us) (omega arith)

  closes : ClosesAt key y (length us) at
  unfolding placed_answer placed_answer_of placed_buffer placed_buffer_of placed_clear
  closes =
      let text = placed_text (kind_of (book_kind y)) key y (length us) at in
      let next = next_of (kind_of (book_kind y)) at (frame_at (kind_of (book_kind y)) (length us) (drop at y)) in
      record {
        refused = λ out. (
          ap (λ (a : Answer). placed_told (placed_report a text next)) (closes-outcome (length out)),
          ap (λ (a : Answer). written a (handed_out text) out) (closes-outcome (length out)),
        );
        number = ap clear_told closes-clear;
        clear = closes-clear;
      }

pub fetches_units : (q : BookKind) → FetchesUnits q
fetches_units q =
    record {
      unit = unit-fetched q;
      none = none-fetched q;
      part = unit-part q;
      placed = unit-placed q;
      clear = unit-clear q;
      closes = closes q;
    }
