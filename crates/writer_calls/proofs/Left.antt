-- The writer's half of demand 3 holds. Of an accepted call only what Brings says is used, so that calls of each sort go one way.
use Rattle.suites.specs.Answer.{Answer}
use Rattle.std.specs.Prelude.{Ok, Err}
use mathlib.Core.Path.{◌≡◌, refl, sym, ap, ◌∙◌, subst}
use mathlib.Core.Bool.{Bool, true, false, ◌||◌, or-false, or_assoc, cond}
use mathlib.Core.List.{List, [], ◌∷◌, ◌++◌, append_assoc, append-nil}
use Prim.Native.Nat.{ℕ, ◌+◌, ◌*◌, ◌≤◌}
use native.Mathlib.Nat.{zero-add}
use native.Mathlib.Numerals.{add-one}
use native.Mathlib.Omega.{arith}
use lib.ListN.{length, take, drop, length-append}
use lib.Seq.{drop-drop, length-take-le}
use Rattle.suites.specs.Suite.{listed}
use Rattle.fields.specs.Each.{Each, none, more, EachFrom, none_from, more_from}
use Rattle.fields.specs.Kind.{Kind, WellFormed}
use Rattle.kinds.specs.Lengths.{close_length}
use Rattle.format.specs.Layout.{close_bytes, units_bytes, book_length}
use Rattle.format.specs.Sealings.{Sealing, opening_fields, close_sealing, unit_sealings, call_total}
use Rattle.fields.specs.Unit.{BookUnit, Allowed}
use Rattle.fields.proofs.Details.{length_details_of}
use Rattle.fields.proofs.Each.{each_from_append}
use Rattle.fields.proofs.Texts.{range_told}
use Rattle.format.proofs.Lengths.{length_opening_fields, units_bytes_append, unit_sealings_append, length_cipher_calls, call_total_append}
use Rattle.format.proofs.Apart.{book_apart}
use Rattle.suites.specs.Told.{by_answer}
use Rattle.suites.proofs.Numbers.{told_done}
use Rattle.writer_state.specs.Tests.{start_outcome, add_outcome}
use Rattle.writer_state.specs.Writer.{no_writer}
use Rattle.writer_calls.specs.Writer.{put_at, start_writer, start_buffer, new_writer}
use Rattle.writer_calls.specs.History.{
  Call,
  add,
  close,
  Callable,
  adds,
  State,
  outcome,
  after_call,
  after_calls,
  units_of,
  units,
  is_close,
  has_close,
  sealings_of,
  sealings,
  Start,
  started,
}
use Rattle.writer_calls.specs.Left.{laid_out, sealed_of, answer_to, Leaves, writing, WriterHalf}
use Rattle.writer_calls.proofs.Brings.{bytes_of, brought, Brings, add_long, add_total, brings, refused}
use Rattle.writer_calls.proofs.Few.{unit_calls_lem, units_calls, close_total}
use Rattle.writer_calls.proofs.Answers.{start_told, answers_told}
use Rattle.writer_state.proofs.Passed.{start_passed, Valid, valid_is, add_passes, close_passes}
use Rattle.writer_calls.proofs.Put.{take_put, drop_put_lem, length_put}

-- what an accepted start leaves
abbrev begun : Start → State
begun s = record { writer = new_writer s.suite s.key s.number; buffer = put_at 0 (opening_fields s.suite s.number) s.buffer }

start_done : (s : Start) → start_outcome s.suite (length s.key) (length s.buffer) ≡ Ok tt
start_done s = told_done (start_outcome s.suite (length s.key) (length s.buffer)) s.accepted

started_is : (s : Start) → started s ≡ begun s
unfolding start_writer start_buffer
started_is s =
    λ j. record {
      writer = by_answer (start_done s j) (new_writer s.suite s.key s.number) no_writer;
      buffer = by_answer (start_done s j) (put_at 0 (opening_fields s.suite s.number) s.buffer) s.buffer;
    }

module _ (kind : Kind) (s : Start) where
  laid_none : laid_out kind s [] false ≡ opening_fields s.suite s.number
  unfolding laid_out units_bytes
  laid_none = append-nil (opening_fields s.suite s.number)

  -- units behind units, then a close or none: their bytes and their sealings
  laid_more : (us vs : List BookUnit) (closed : Bool)
      → laid_out kind s us false
      ++ (units_bytes kind s.suite s.key s.number (length us) vs
      ++ cond closed (close_bytes kind s.suite s.key s.number (length us + length vs)) [])
      ≡ laid_out kind s (us ++ vs) closed
  unfolding laid_out
  laid_more us vs closed = simp (append-nil, append_assoc, units_bytes_append, zero-add, length-append)

  made_more : (us vs : List BookUnit) (closed : Bool)
      → sealed_of kind s us false
      ++ (unit_sealings kind s.suite s.number (length us) vs
      ++ cond closed (close_sealing kind s.suite s.number (length us + length vs) ∷ []) [])
      ≡ sealed_of kind s (us ++ vs) closed
  unfolding sealed_of
  made_more us vs closed = simp (append-nil, append_assoc, unit_sealings_append, zero-add, length-append)

  -- what stands after calls with the units us, with an accepted close or none, and with the sealings ss
  record Stands (us : List BookUnit) (closed : Bool) (ss : List Sealing) (e : State) : Type 0 where
    before : take e.writer.place e.buffer ≡ laid_out kind s us closed
    within : e.writer.place ≤ length e.buffer
    behind : drop e.writer.place e.buffer ≡ drop e.writer.place s.buffer
    room : length e.buffer ≡ length s.buffer
    suite : e.writer.suite ≡ s.suite
    key : e.writer.key ≡ s.key
    number : e.writer.number ≡ s.number
    closes : e.writer.closed ≡ closed
    count : e.writer.count ≡ length us
    few : length us ≤ kind.unit_limit
    allowed : EachFrom (Allowed kind) 0 us
    sealed : ss ≡ sealed_of kind s us closed
    total : e.writer.total ≡ call_total ss

  -- after an accepted start
  start-stands : Stands [] false [] (started s)
  unfolding sealed_of unit_sealings call_total
  start-stands =
      let enough : 16 ≤ length s.buffer = (start_passed s.suite (length s.key) (length s.buffer) (start_done s)).enough in
      let o : List ℕ = opening_fields s.suite s.number in
      let long : length o ≡ 16 = length_opening_fields s.suite s.number in
      let kept : length (put_at 0 o s.buffer) ≡ length s.buffer = length_put 0 16 o s.buffer long (omega arith) enough in
      subst (Stands [] false []) (sym (started_is s))
      (record {
        before = take_put 0 16 o s.buffer long (omega arith) ∙ sym laid_none;
        within = omega arith;
        behind = drop_put_lem 0 16 o s.buffer long (omega arith);
        room = kept;
        suite = refl;
        key = refl;
        number = refl;
        closes = refl;
        count = refl;
        few = omega arith;
        allowed = none_from;
        sealed = refl;
        total = refl;
      })

  -- an accepted call, whichever it is
  brings-stands : {us : List BookUnit} {closed : Bool} {ss : List Sealing} {e : State} (c : Call) → Stands us closed ss e → Brings kind c e
      → Stands (us ++ units_of c) (closed || is_close c) (ss ++ sealings_of kind c e.writer) (brought kind c e)
  brings-stands {closed = true} c i b = let z : ◌≡◌ {A = ℕ} 0 1 = cc in absurd (omega arith)
  brings-stands {us} {closed = false} {ss} {e} c i b =
      let p = e.writer.place in
      let bytes = bytes_of kind c e.writer in
      let kept : length (put_at p bytes e.buffer) ≡ length e.buffer = length_put p (length bytes) bytes e.buffer refl i.within b.enough in
      record {
        before =
            take_put p (length bytes) bytes e.buffer refl i.within
            ∙ (λ j. i.before j
            ++ (units_bytes kind (i.suite j) (i.key j) (i.number j) (i.count j) (units_of c)
            ++ cond (is_close c) (close_bytes kind (i.suite j) (i.key j) (i.number j) (i.count j + length (units_of c))) []))
            ∙ laid_more us (units_of c) (is_close c);
        within = omega (arith, b.enough);
        behind =
            drop_put_lem p (length bytes) bytes e.buffer refl i.within
            ∙ sym (drop-drop (length bytes) p e.buffer)
            ∙ ap (drop (length bytes)) i.behind
            ∙ drop-drop (length bytes) p s.buffer;
        room = kept ∙ i.room;
        suite = i.suite;
        key = i.key;
        number = i.number;
        closes = ap (λ (x : Bool). x || is_close c) i.closes;
        count = omega (arith, length-append us (units_of c));
        few = omega (arith, length-append us (units_of c), b.few);
        allowed = each_from_append i.allowed (rw (zero-add, ← i.count) b.allowed);
        sealed =
            (λ j. i.sealed j
            ++ (unit_sealings kind (i.suite j) (i.number j) (i.count j) (units_of c)
            ++ cond (is_close c) (close_sealing kind (i.suite j) (i.number j) (i.count j + length (units_of c)) ∷ []) []))
            ∙ made_more us (units_of c) (is_close c);
        total = omega (arith, call_total_append ss (sealings_of kind c e.writer));
      }

  module _ {us : List BookUnit} {closed : Bool} {ss : List Sealing} {e : State} (i : Stands us closed ss e) (c : Call) (k : Callable kind c) where
    -- a refused call changes nothing and brings nothing
    answer-stands : (a : Answer) → outcome kind c e ≡ a
        → Stands (us ++ by_answer a (units_of c) []) (closed || by_answer a (is_close c) false) (ss ++ by_answer a (sealings_of kind c e.writer) [])
        (after_call kind c e)
    answer-stands (Ok tt) d = let b = brings kind e c k d in rw b.leaves (brings-stands c i b)
    answer-stands (Err why) d = rw (append-nil us, or-false closed, append-nil ss, refused kind e c d) i

    call-stands : Stands (us ++ by_answer (outcome kind c e) (units_of c) []) (closed || by_answer (outcome kind c e) (is_close c) false)
        (ss ++ by_answer (outcome kind c e) (sealings_of kind c e.writer) []) (after_call kind c e)
    call-stands = answer-stands (outcome kind c e) refl

  run-stands : {us : List BookUnit} {closed : Bool} {ss : List Sealing} {e : State} (cs : List Call) → Each (Callable kind) cs → Stands us closed ss e
      → Stands (us ++ units kind cs e) (closed || has_close kind cs e) (ss ++ sealings kind cs e) (after_calls kind cs e)
  unfolding after_calls units has_close sealings
  run-stands {us} {closed} {ss} [] none i = rw (append-nil us, or-false closed, append-nil ss) i
  run-stands {us} {closed} {ss} {e} (c ∷ cs) (more k ks) i =
      rw (← append_assoc us, ← or_assoc closed, ← append_assoc ss) (run-stands {us = us ++ by_answer (outcome kind c e) (units_of c) []} cs ks (call-stands i c k))

  -- the writer is valid
  stands-valid : WellFormed kind → {us : List BookUnit} {closed : Bool} {ss : List Sealing} {e : State} → Stands us closed ss e
      → Valid kind e.writer (length e.buffer)
  unfolding laid_out sealed_of
  stands-valid formed {us} {closed} {ss} {e} i =
      let p = start_passed s.suite (length s.key) (length s.buffer) (start_done s) in
      let o = opening_fields s.suite s.number in
      let rest : List ℕ =
      units_bytes kind s.suite s.key s.number 0 us ++ cond closed (close_bytes kind s.suite s.key s.number (length us)) [] in
      let shut : List Sealing = cond closed (close_sealing kind s.suite s.number (length us) ∷ []) [] in
      let place : e.writer.place ≡ length (laid_out kind s us closed) =
      sym (length-take-le e.writer.place e.buffer i.within) ∙ ap length i.before in
      record {
        listed_suite = rw i.suite p.listed_suite;
        begun = omega (arith, length-append o rest, length_opening_fields s.suite s.number);
        within = i.within;
        count = omega (arith, i.few);
        total =
            omega (
              arith,
              ap call_total i.sealed,
              call_total_append (unit_sealings kind s.suite s.number 0 us) shut,
              units_calls kind formed s.suite s.number 0 us i.allowed,
              close_total kind formed s.suite s.number (length us) closed,
            );
      }

  -- of a well-formed kind, this is what the statement asks
  stands-leaves : WellFormed kind → {us : List BookUnit} {closed : Bool} {ss : List Sealing} {e : State} → Stands us closed ss e → Leaves kind s us closed ss e
  unfolding sealed_of
  stands-leaves formed {us} {closed} {ss} {e} i =
      let p = start_passed s.suite (length s.key) (length s.buffer) (start_done s) in
      record {
        before = i.before;
        place = sym (length-take-le e.writer.place e.buffer i.within) ∙ ap length i.before;
        behind = i.behind;
        room = i.room;
        suite = i.suite;
        key = i.key;
        number = i.number;
        closes = i.closes;
        count = i.count;
        sound = valid_is kind e.writer (length e.buffer) (stands-valid formed i);
        answers = λ c.
            answers_told kind e (stands-valid formed i) c
            ∙ (λ j. answer_to kind (i.closes j) (i.count j) e.writer.place (length e.buffer) c);
        bookable =
            record {
              listed_suite = p.listed_suite;
              key_long = p.key;
              key_bytes = s.key_bytes;
              number_fits = s.number_fits;
              units = i.allowed;
              few = i.few;
            };
        sealed = i.sealed;
        total = i.total ∙ sym (length_cipher_calls ss);
        sum = length_cipher_calls ss;
        apart = rw i.sealed (rw zero-add at (book_apart kind formed s.suite s.number 0 us closed (rw zero-add i.few) i.allowed));
      }

-- which books can be written

book_long : (kind : Kind) (us : List BookUnit) → 16 + close_length kind ≤ book_length kind us
unfolding book_length
book_long kind [] = omega arith
book_long kind (u ∷ us) = omega (arith, book_long kind us)

module _ (kind : Kind) (formed : WellFormed kind) where
  -- a state in which these units, then a close, can be written; a book's length counts its first fields too
  record Ready (us : List BookUnit) (e : State) : Type 0 where
    listed_suite : listed e.writer.suite.cipher e.writer.suite.steps ≡ true
    begun : 16 ≤ e.writer.place
    enough : e.writer.place + book_length kind us ≤ 16 + length e.buffer
    few : e.writer.count + length us ≤ kind.unit_limit
    total : e.writer.total ≤ 1024 * e.writer.count
    unclosed : e.writer.closed ≡ false

  module _ {e : State} where
    ready-valid : {us : List BookUnit} → Ready us e → Valid kind e.writer (length e.buffer)
    ready-valid {us} r =
        let long = book_long kind us in
        record { listed_suite = r.listed_suite; begun = r.begun; within = omega arith; count = omega arith; total = omega arith }

    add_done : {u : BookUnit} {us : List BookUnit} → Allowed kind e.writer.count u → Ready (u ∷ us) e → outcome kind (add u) e ≡ Ok tt
    unfolding add_outcome book_length
    add_done {u} {us} a r =
        let range = range_told (length u.source) (length u.target) a.range in
        add_passes kind e.writer u.from u.to (length u.source) (length u.target) (length e.buffer)
        (record {
          valid = ready-valid r;
          unclosed = r.unclosed;
          languages = a.languages;
          range = a.range;
          some = range.0;
          source = range.1;
          target = range.2;
          few = omega arith;
          enough = omega (arith, r.enough, book_long kind us);
        })

    add-ready : {u : BookUnit} {us : List BookUnit} → Allowed kind e.writer.count u → Ready (u ∷ us) e → Ready us (brought kind (add u) e)
    unfolding book_length
    add-ready {u} {us} a r =
        let w = e.writer in
        let bytes : List ℕ = bytes_of kind (add u) w in
        let long = add_long kind w u a.given in
        let range = range_told (length u.source) (length u.target) a.range in
        let calls = unit_calls_lem kind formed w.suite w.number w.count u (length_details_of kind u a.given) range.1 range.2 in
        let kept : length (put_at w.place bytes e.buffer) ≡ length e.buffer =
        length_put w.place (length bytes) bytes e.buffer refl (ready-valid r).within (omega (arith, r.enough, book_long kind us)) in
        record {
          listed_suite = r.listed_suite;
          begun = omega arith;
          enough = omega (arith, r.enough);
          few = omega (arith, r.few);
          total = omega (arith, r.total, add_total kind w u);
          unclosed = rw or-false r.unclosed;
        }

    close-done : Ready [] e → outcome kind close e ≡ Ok tt
    unfolding book_length
    close-done r =
        close_passes kind e.writer (length e.buffer)
        (record { valid = ready-valid r; unclosed = r.unclosed; enough = omega (arith, r.enough) })

  ready-writes : (us : List BookUnit) (e : State) → EachFrom (Allowed kind) e.writer.count us → Ready us e
      → (units kind (writing us) e ≡ us) × (has_close kind (writing us) e ≡ true)
  unfolding units has_close
  ready-writes [] e none_from r =
      let done = close-done r in
      ((λ j. by_answer {A = List BookUnit} (done j) [] [] ++ []), (λ j. by_answer (done j) true false || false))
  ready-writes (u ∷ us) e (more_from a each) r =
      let done = add_done a r in
      let after : after_call kind (add u) e ≡ brought kind (add u) e = (brings kind e (add u) (adds a.given) done).leaves in
      let rest = ready-writes us (brought kind (add u) e) (rw add-one each) (add-ready a r) in (
        (λ j. by_answer (done j) (u ∷ []) [] ++ units kind (writing us) (after j)) ∙ ap (λ (x : List BookUnit). u ∷ x) rest.0,
        (λ j. by_answer (done j) false false || has_close kind (writing us) (after j)) ∙ rest.1,
      )

  start-ready : (s : Start) (us : List BookUnit) → length us ≤ kind.unit_limit → book_length kind us ≤ length s.buffer → Ready us (begun s)
  start-ready s us few enough =
      let p = start_passed s.suite (length s.key) (length s.buffer) (start_done s) in
      let kept = length_put 0 16 (opening_fields s.suite s.number) s.buffer (length_opening_fields s.suite s.number) (omega arith) p.enough in
      record { listed_suite = p.listed_suite; begun = omega arith; enough = omega (arith, kept); few = omega arith; total = omega arith; unclosed = refl }

pub writer_half : (kind : Kind) → WellFormed kind → WriterHalf kind
writer_half kind formed =
    record {
      starts = start_told;
      leaves = λ s cs each. stands-leaves kind s formed (run-stands kind s cs each (start-stands kind s));
      writes = λ s us each few enough. rw (started_is s) (ready-writes kind formed us (begun s) each (start-ready kind formed s us few enough));
    }
